-- What contracts see of a player: its junction, its plan and its second.
use Rattle.std.specs.Prelude.{ℕ, List}
use Rattle.junction_model.specs.Junction.{JunctionView}
use Rattle.plan_model.specs.SignalPlan.{PlanView}
use Rattle.plan_model.specs.FittedPlan.{junction_of, fitted_plan_of}
use Rattle.aspect_player.specs.declared.aspect.Aspect.{Aspect}
use Rattle.aspect_player.specs.declared.player.Player.{Player}
use Rattle.aspect_player.specs.Timetable.{row_at}

abbrev pub junction_in : Player → JunctionView
junction_in player = junction_of player.plan.now

abbrev pub plan_in : Player → PlanView
plan_in player = fitted_plan_of player.plan.now

abbrev pub second_of : Player → ℕ
second_of player = player.second

-- the row of that second
abbrev pub row_of : Player → List Aspect
row_of player = row_at (junction_in player) (plan_in player) (second_of player)
