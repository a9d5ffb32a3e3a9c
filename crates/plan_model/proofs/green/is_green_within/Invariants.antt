use Rattle.std.proofs.Common.{◌+◌}
use Rattle.sig_base.specs.First.{NoneBelow}
use Rattle.plan_model.specs.SignalPlan.{GreenAt}
use Rattle.plan_model.specs.Plan.{plan_of}
use Rattle.plan_model.proofs.green.is_green_within.Given as goal

abbrev pub invariant-loop-later : goal.invariant-loop-later
invariant-loop-later l = NoneBelow (λ d. GreenAt (plan_of l.plan) l.group (l.second + d)) l.later
