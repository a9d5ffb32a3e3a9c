use Rattle.sig_base.specs.First.{NoneBelow}
use Rattle.plan_model.specs.Plan.{plan_of}
use Rattle.plan_model.specs.FirstFault.{IsGreenLong}
use Rattle.plan_model.proofs.range.first_long_green.Given as goal

abbrev pub invariant-loop-i : goal.invariant-loop-i
invariant-loop-i l = NoneBelow (IsGreenLong l.junction (plan_of l.plan)) l.i
