use Rattle.plan_model.specs.FittedPlan.{junction_of, fitted_plan_of}
use Rattle.plan_model.specs.Least.{FoundBelow}
use Rattle.plan_model.proofs.least_multiplier.multiplier.Given as goal

abbrev pub invariant-loop-lane : goal.invariant-loop-lane
invariant-loop-lane l = FoundBelow (junction_of l.plan) (fitted_plan_of l.plan) l.lanes l.lane l.least
