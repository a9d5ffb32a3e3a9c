-- What is shown while plans are changed: at each second the aspects of the schedule that stands as it is ticked away.
use Rattle.std.specs.Prelude.{ℕ, List, ◌≤◌, ◌+◌, ◌-◌, nat_lt, nat_le, filter, All, AllPairs}
use Rattle.junction_model.specs.Junction.{JunctionView}
use Rattle.plan_model.specs.SignalPlan.{PlanView}
use Rattle.plan_model.specs.Fits.{Fits}
use Rattle.aspect_player.specs.declared.aspect.Aspect.{Aspect}
use Rattle.aspect_player.specs.Timetable.{Display, rows_by}
use Rattle.plan_change.specs.Runs.{shown_at}
use Rattle.plan_change.specs.Schedule.{RequestView, Schedule, moment, schedule_of}

-- the requests up to second t, those of second t itself too
abbrev pub standing : List RequestView → ℕ → List RequestView
standing requests t = filter (λ (r : RequestView). nat_le r.at t) requests

-- the requests of the seconds before t
abbrev pub requests_before : List RequestView → ℕ → List RequestView
requests_before requests t = filter (λ (r : RequestView). nat_lt r.at t) requests

-- what the schedule shows at each second
abbrev pub schedule_display : PlanView → Schedule → Display
schedule_display first schedule i times t = shown_at (schedule.runs i) times (moment first t)

abbrev pub change_display : JunctionView → PlanView → List RequestView → Display
change_display junction first requests i times t =
    schedule_display first (schedule_of junction first (standing requests t)) i times t

-- the rows of the seconds 0 to n - 1
abbrev pub changed_rows : JunctionView → PlanView → List RequestView → ℕ → List (List Aspect)
changed_rows junction first requests n = rows_by junction (change_display junction first requests) n

-- the second from which on the plan of the last request is played as if nothing had been before
abbrev pub settled_at : JunctionView → PlanView → List RequestView → ℕ
settled_at junction first requests =
    (schedule_of junction first requests).begin + (schedule_of junction first requests).plan.cycle - first.cycle

-- each plan fits, and no request comes before an earlier one in the list
pub record AreRequests (junction : JunctionView) (requests : List RequestView) : Type 0 where
  pub fit : All (λ (r : RequestView). Fits junction r.plan) requests
  pub ordered : AllPairs (λ (r s : RequestView). r.at ≤ s.at) requests
