-- What contracts see of a changer: its junction, its first plan, its requests and its second.
use Rattle.std.specs.Prelude.{ℕ, List}
use Rattle.junction_model.specs.Junction.{JunctionView}
use Rattle.plan_model.specs.SignalPlan.{PlanView}
use Rattle.plan_model.specs.Plan.{plan_of}
use Rattle.aspect_player.specs.declared.aspect.Aspect.{Aspect}
use Rattle.aspect_player.specs.Timetable.{Display, row_by}
use Rattle.aspect_player.specs.Lines.{display_line}
use Rattle.plan_change.specs.declared.changer.Changer.{Changer}
use Rattle.plan_change.specs.Requests.{requests_of}
use Rattle.plan_change.specs.Schedule.{RequestView, Schedule, schedule_of}
use Rattle.plan_change.specs.Changes.{schedule_display}

abbrev pub junction_in : Changer → JunctionView
junction_in changer = changer.junction.now

abbrev pub first_in : Changer → PlanView
first_in changer = plan_of changer.first

abbrev pub requests_in : Changer → List RequestView
requests_in changer = requests_of changer.requests.items

abbrev pub second_in : Changer → ℕ
second_in changer = changer.second

-- the schedule that they tell, and what it shows
abbrev pub schedule_in : Changer → Schedule
schedule_in changer = schedule_of (junction_in changer) (first_in changer) (requests_in changer)

abbrev pub display_in : Changer → Display
display_in changer = schedule_display (first_in changer) (schedule_in changer)

-- the row of its second, and the line of that row
abbrev pub row_in : Changer → List Aspect
row_in changer = row_by (junction_in changer) (display_in changer) (second_in changer)

abbrev pub line_in : Changer → List ℕ
line_in changer = display_line (junction_in changer) (display_in changer) (second_in changer)
