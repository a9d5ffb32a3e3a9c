-- What a changer's records hold: for each group one run and the start of the plan's next one, counted down.
use Rattle.std.specs.Prelude.{ℕ, List, Bool, true, Some, ◌≡◌, ◌+◌, ◌-◌, ◌<◌, ◌≤◌, if◌then◌else◌, ◌==◌, ◌&&◌, ◌||◌, nat_lt, nat_le, max, slice_index_or}
use Rattle.sig_base.specs.declared.group_times.GroupTimes.{GroupTimes}
use Rattle.junction_model.specs.Junction.{JunctionView}
use Rattle.plan_model.specs.SignalPlan.{PlanView, start_of, green_of}
use Rattle.plan_model.specs.Fits.{group_count}
use Rattle.aspect_player.specs.declared.aspect.Aspect.{Aspect}
use Rattle.aspect_player.specs.declared.aspect.Aspect.TheVariants.{Red, RedAmber, Green, Amber}
use Rattle.plan_change.specs.declared.head.Head.{Head}
use Rattle.plan_change.specs.Runs.{Runs, some_run}
use Rattle.plan_change.specs.Schedule.{Schedule, greatest, times_at}

abbrev pub head_of : ℕ → ℕ → ℕ → Head
head_of start over next = record { start = start; over = over; next = next }

abbrev pub no_head : Head
no_head = head_of 0 0 0

-- whether the record tells a run that has started, or that red-amber has announced
abbrev pub tells_run : Runs → GroupTimes → ℕ → Head → Bool
tells_run runs times t head =
    some_run runs (t + times.red_amber + 1) (λ a g. (head.start == a - t) && (head.over == a + g + times.amber - t))

-- the record of group i at moment t
pub record IsHead (junction : JunctionView) (s : Schedule) (i t : ℕ) (head : Head) : Type 0 where
  pub own : tells_run (s.runs i) (times_at junction i) t head ≡ true
  -- the plan's next run
  pub next : (1 ≤ head.next) × (s.begin ≤ t + head.next)
  pub coming : s.runs i (t + head.next) ≡ Some (green_of s.plan i)
  -- no other run that starts before that one is still seen
  pub each : (b g : ℕ) → s.runs i b ≡ Some g → t < b + g + (times_at junction i).amber → b < t + head.next →
      (head.start ≡ b - t) × (head.over ≡ b + g + (times_at junction i).amber - t)

-- each group's
abbrev pub AreHeads : JunctionView → Schedule → ℕ → List Head → Type 0
AreHeads junction s t heads = (i : ℕ) → i < group_count junction → IsHead junction s i t (slice_index_or heads i no_head)

-- the aspect that a record tells
abbrev pub aspect_of_head : Head → GroupTimes → Aspect
aspect_of_head head times =
    (if (head.start == 0) && nat_lt times.amber head.over then Green
    else if (head.start == 0) && nat_lt 0 head.over then Amber
    else if nat_lt 0 head.start || nat_le head.next times.red_amber then RedAmber
    else Red)

-- the record a second later, where the plan's greens with their ambers last so long
abbrev pub head_later : Head → ℕ → ℕ → Head
head_later head cycle lasts =
    (if head.next == 1 then head_of 0 lasts cycle else head_of (head.start - 1) (head.over - 1) (head.next - 1))

-- the record that a request keeps: a green that red-amber has announced is its run
abbrev pub head_kept : Head → ℕ → ℕ → Head
head_kept head red_amber lasts =
    (if nat_le head.next red_amber then head_of head.next (head.next + lasts) head.next else head)

-- the seconds of group i's green and of the amber after it
abbrev pub lasting : JunctionView → PlanView → ℕ → ℕ
lasting junction p i = green_of p i + (times_at junction i).amber

abbrev pub head_at : List Head → ℕ → Head
head_at heads i = slice_index_or heads i no_head

-- seconds from second 0 to the next start
abbrev pub first_next : PlanView → ℕ → ℕ
first_next p i = (if start_of p i == 0 then p.cycle else start_of p i)

-- the record of group i at second 0 of a plan, a second later, with the run that a request keeps, and with the start of a
-- plan that begins in so many seconds
abbrev pub first_record : JunctionView → PlanView → ℕ → Head
first_record junction p i = head_of 0 (first_next p i + lasting junction p i - p.cycle) (first_next p i)

abbrev pub later_record : JunctionView → PlanView → List Head → ℕ → Head
later_record junction p old i = head_later (head_at old i) p.cycle (lasting junction p i)

abbrev pub kept_record : JunctionView → PlanView → List Head → ℕ → Head
kept_record junction p old i = head_kept (head_at old i) (times_at junction i).red_amber (lasting junction p i)

abbrev pub restarted_record : PlanView → ℕ → List Head → ℕ → Head
restarted_record p wait old i = head_of (head_at old i).start (head_at old i).over (wait + start_of p i)

-- each group has its record
abbrev pub HasRecords : JunctionView → (ℕ → Head) → List Head → Type 0
HasRecords junction record_of heads = (i : ℕ) → i < group_count junction → head_at heads i ≡ record_of i

-- seconds of green that the record's run has left
abbrev pub green_left : JunctionView → List Head → ℕ → ℕ
green_left junction heads i = (head_at heads i).over - (times_at junction i).amber

-- seconds until the first second in which no kept run is green
abbrev pub kept_left : JunctionView → List Head → ℕ
kept_left junction heads = max 1 (greatest (group_count junction) (green_left junction heads))

abbrev pub AreCounting : JunctionView → List Head → Type 0
AreCounting junction heads = (i : ℕ) → i < group_count junction → 1 ≤ (head_at heads i).next

abbrev pub AreShort : JunctionView → List Head → Type 0
AreShort junction heads = (i : ℕ) → i < group_count junction → (head_at heads i).over ≤ 400
