use Rattle.plan_certificate.specs.Certificate.{certificate_of}
use Rattle.certificate_checker.specs.PlanRules.{NoTreeBelow}
use Rattle.certificate_checker.proofs.checking.trees_fault.Given as goal

abbrev pub invariant-loop-number : goal.invariant-loop-number
invariant-loop-number l = NoTreeBelow l.junction (certificate_of l.certificate) l.multiple l.number
