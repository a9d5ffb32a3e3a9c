use Rattle.sig_base.specs.First.{NoneBelow}
use Rattle.plan_model.specs.Plan.{plan_of}
use Rattle.plan_model.specs.FirstFault.{StartsLate}
use Rattle.plan_model.proofs.range.first_late_start.Given as goal

abbrev pub invariant-loop-i : goal.invariant-loop-i
invariant-loop-i l = NoneBelow (StartsLate (plan_of l.plan)) l.i
