-- Schedules: the runs of all groups, as a first plan and requests for other plans tell them.
use Rattle.std.specs.Prelude.{ℕ, zero, suc, List, Bool, true, false, not, None, Some, ◌&&◌, ◌||◌, ◌+◌, ◌-◌, ◌%◌, ◌==◌, if◌then◌else◌, nat_lt, nat_le, max, fold, unwrap_or, slice_get}
use Rattle.std.specs.Option.{option_or, option_map_or}
use Rattle.sig_base.specs.declared.group_times.GroupTimes.{GroupTimes}
use Rattle.conflict_matrix.specs.Matrix.{intergreen_of}
use Rattle.junction_model.specs.declared.group.Group.{Group}
use Rattle.junction_model.specs.Junction.{JunctionView}
use Rattle.plan_model.specs.SignalPlan.{PlanView, start_of, green_of}
use Rattle.plan_model.specs.Fits.{group_count}
use Rattle.aspect_player.specs.declared.aspect.Aspect.{Aspect}
use Rattle.aspect_player.specs.declared.aspect.Aspect.TheVariants.{Red, RedAmber, Green, Amber}
use Rattle.plan_change.specs.Runs.{Runs, some_run, shown_at}

-- a request at a second for a plan
pub record RequestView : Type 0 where
  pub at : ℕ
  pub plan : PlanView

-- the runs of each group, the plan that stands since the last request, and the moment at which it begins
pub record Schedule : Type 0 where
  pub runs : ℕ → Runs
  pub plan : PlanView
  pub begin : ℕ

-- the greatest of the first n values
unfoldable pub greatest : ℕ → (ℕ → ℕ) → ℕ
greatest zero f = 0
greatest (suc n) f = max (f n) (greatest n f)

abbrev pub no_times : GroupTimes
no_times = record { min_green = 0; amber = 0; red_amber = 0; start_lost = 0; end_gain = 0; max_green = 0 }

-- the times of group i
abbrev pub times_at : JunctionView → ℕ → GroupTimes
times_at junction i = option_map_or (λ (group : Group). group.times) (slice_get junction.groups i) no_times

-- seconds of amber and red-amber between two greens of group i
abbrev pub own_gap : JunctionView → ℕ → ℕ
own_gap junction i = (times_at junction i).amber + (times_at junction i).red_amber

-- the greatest of the intergreens, and of the groups' sums of amber and red-amber: so long nothing is green before a new
-- plan begins, and so amber and red-amber of one group never overlap
abbrev pub greatest_from : JunctionView → ℕ → ℕ
greatest_from junction i = greatest (group_count junction) (λ j. unwrap_or (intergreen_of junction.conflicts i j) 0)

abbrev pub change_gap : JunctionView → ℕ
change_gap junction = greatest (group_count junction) (λ i. max (greatest_from junction i) (own_gap junction i))

-- the runs of group i in a plan that begins at moment b: none of them starts before that
abbrev pub plan_runs : PlanView → ℕ → ℕ → Runs
plan_runs p b i a =
    (if nat_le (b + start_of p i) a && ((a - (b + start_of p i)) % p.cycle == 0) then Some (green_of p i) else None)

abbrev pub is_red_amber : Aspect → Bool
is_red_amber Red = false
is_red_amber RedAmber = true
is_red_amber Green = false
is_red_amber Amber = false

-- whether a request at moment n keeps the run that starts at a: it starts at n or before, or the group shows red-amber at
-- n and it's the group's first run that starts after n
abbrev pub is_kept : Runs → GroupTimes → ℕ → ℕ → Bool
is_kept runs times n a =
    nat_le a n || (is_red_amber (shown_at runs times n) && not (some_run runs a (λ b g. nat_lt n b)))

abbrev pub kept_runs : Runs → GroupTimes → ℕ → Runs
kept_runs runs times n a = (if is_kept runs times n a then runs a else None)

-- the first moment after each kept run: the last of them starts at most the red-amber after the request
abbrev pub last_end : Runs → GroupTimes → ℕ → ℕ
last_end runs times n = greatest (n + times.red_amber + 1) (λ a. option_map_or (λ g. a + g) (kept_runs runs times n a) 0)

-- the first moment after a request at moment n and after each kept run
abbrev pub end_of_kept : JunctionView → (ℕ → Runs) → ℕ → ℕ
end_of_kept junction runs n =
    max (n + 1) (greatest (group_count junction) (λ i. last_end (runs i) (times_at junction i) n))

-- the moment at which the plan of a request at moment n begins
abbrev pub begin_after : JunctionView → (ℕ → Runs) → ℕ → ℕ
begin_after junction runs n = end_of_kept junction runs n + change_gap junction

-- the kept runs, and those of the new plan
abbrev pub changed_runs : JunctionView → (ℕ → Runs) → ℕ → PlanView → ℕ → Runs
changed_runs junction runs n p i a =
    option_or (kept_runs (runs i) (times_at junction i) n a) (plan_runs p (begin_after junction runs n) i a)

abbrev pub changed : JunctionView → ℕ → PlanView → Schedule → Schedule
changed junction n p schedule = record {
  runs = changed_runs junction schedule.runs n p;
  plan = p;
  begin = begin_after junction schedule.runs n;
}

-- the schedule of a plan that begins at moment 0
abbrev pub first_schedule : PlanView → Schedule
first_schedule p = record { runs = plan_runs p 0; plan = p; begin = 0 }

-- moments are counted from one cycle of the first plan before second 0: a green and the amber after it are shorter than a
-- cycle, so no earlier run is seen from second 0 on
abbrev pub moment : PlanView → ℕ → ℕ
moment first t = first.cycle + t

abbrev pub after_request : JunctionView → PlanView → Schedule → RequestView → Schedule
after_request junction first schedule request = changed junction (moment first request.at) request.plan schedule

-- the schedule that a first plan and requests tell
abbrev pub schedule_of : JunctionView → PlanView → List RequestView → Schedule
schedule_of junction first requests = fold (after_request junction first) (first_schedule first) requests
