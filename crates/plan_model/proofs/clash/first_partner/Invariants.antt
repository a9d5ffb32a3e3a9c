use Rattle.sig_base.specs.First.{NoneBelow}
use Rattle.plan_model.specs.Plan.{plan_of}
use Rattle.plan_model.specs.FirstFault.{PairClashes}
use Rattle.plan_model.proofs.clash.first_partner.Given as goal

abbrev pub invariant-loop-j : goal.invariant-loop-j
invariant-loop-j l = NoneBelow (PairClashes l.junction (plan_of l.plan) l.i) l.j
