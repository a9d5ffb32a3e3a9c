use Rattle.plan_model.specs.FittedPlan.{fitted_plan_of}
use Rattle.stage_builder.specs.SoFar.{IsGreenSetBelow}
use Rattle.stage_builder.proofs.green_set.set_at.Given as goal

abbrev pub invariant-loop-group : goal.invariant-loop-group
invariant-loop-group l = IsGreenSetBelow (fitted_plan_of l.plan) l.group l.second l.set
