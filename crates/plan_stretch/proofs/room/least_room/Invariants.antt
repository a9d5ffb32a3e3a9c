use Rattle.plan_model.specs.FittedPlan.{junction_of, fitted_plan_of}
use Rattle.plan_stretch.specs.RoomBelow.{FoundBelow}
use Rattle.plan_stretch.proofs.room.least_room.Given as goal

abbrev pub invariant-loop-j : goal.invariant-loop-j
invariant-loop-j l = FoundBelow (junction_of l.plan) (fitted_plan_of l.plan) l.i l.j l.least
