use Rattle.sig_base.specs.First.{NoneBelow}
use Rattle.plan_model.specs.Fits.{ClashesAt}
use Rattle.plan_model.specs.Plan.{plan_of}
use Rattle.plan_model.proofs.clash.first_second.Given as goal

abbrev pub invariant-loop-second : goal.invariant-loop-second
invariant-loop-second l = NoneBelow (ClashesAt (plan_of l.plan) l.wait l.i l.j) l.second
