-- What is true of each first plan and each list of requests.
use Rattle.std.specs.Prelude.{ℕ, List, [], ◌∷◌, ◌++◌, Some, ◌≡◌, ◌≤◌, ◌+◌, ◌-◌, All, slice_get}
use Rattle.junction_model.specs.declared.group.Group.{Group}
use Rattle.junction_model.specs.Junction.{JunctionView}
use Rattle.junction_model.specs.Rules.{IsJunction}
use Rattle.plan_model.specs.SignalPlan.{PlanView}
use Rattle.plan_model.specs.Fits.{Fits}
use Rattle.aspect_player.specs.Aspect.{aspect_at}
use Rattle.aspect_player.specs.Safe.{IsSafe}
use Rattle.aspect_player.specs.Timetable.{timetable}
use Rattle.plan_change.specs.Schedule.{RequestView, moment, schedule_of}
use Rattle.plan_change.specs.Changes.{AreRequests, requests_before, schedule_display, change_display, changed_rows, settled_at}

-- the rows are safe, however many requests there are and whenever they come
abbrev pub ChangeSafetyLaw : Type 0
ChangeSafetyLaw = (junction : JunctionView) (first : PlanView) (requests : List RequestView) (n : ℕ) →
    IsJunction junction → Fits junction first → AreRequests junction requests →
    IsSafe junction (changed_rows junction first requests n)

-- requests change no aspect of the second of the first of them, nor of a second before
abbrev pub OwnSecondLaw : Type 0
OwnSecondLaw = (junction : JunctionView) (first : PlanView) (requests later : List RequestView) (i t : ℕ) (group : Group) →
    IsJunction junction → Fits junction first → AreRequests junction (requests ++ later) →
    slice_get junction.groups i ≡ Some group → All (λ (r : RequestView). t ≤ r.at) later →
    schedule_display first (schedule_of junction first (requests ++ later)) i group.times t
    ≡ schedule_display first (schedule_of junction first requests) i group.times t

-- so what is shown at each second is what the schedule of all requests shows there
abbrev pub LastScheduleLaw : Type 0
LastScheduleLaw = (junction : JunctionView) (first : PlanView) (requests : List RequestView) (i t : ℕ) (group : Group) →
    IsJunction junction → Fits junction first → AreRequests junction requests → slice_get junction.groups i ≡ Some group →
    change_display junction first requests i group.times t
    ≡ schedule_display first (schedule_of junction first requests) i group.times t

-- and two lists with the same requests before second t have the same rows up to second t
abbrev pub SharedPastLaw : Type 0
SharedPastLaw = (junction : JunctionView) (first : PlanView) (requests other : List RequestView) (t : ℕ) →
    IsJunction junction → Fits junction first → AreRequests junction requests → AreRequests junction other →
    requests_before requests t ≡ requests_before other t →
    changed_rows junction first requests (t + 1) ≡ changed_rows junction first other (t + 1)

-- with requests of the last second or later ones alone, or none, the rows are those of the plan
abbrev pub PlainLaw : Type 0
PlainLaw = (junction : JunctionView) (first : PlanView) (requests : List RequestView) (n : ℕ) →
    IsJunction junction → Fits junction first → AreRequests junction requests →
    All (λ (r : RequestView). n ≤ r.at + 1) requests →
    changed_rows junction first requests n ≡ timetable junction first n

-- from the settled second on the plan of the last request is played
abbrev pub SettledLaw : Type 0
SettledLaw = (junction : JunctionView) (first : PlanView) (requests : List RequestView) (i t : ℕ) (group : Group) →
    IsJunction junction → Fits junction first → AreRequests junction requests → slice_get junction.groups i ≡ Some group →
    settled_at junction first requests ≤ t →
    schedule_display first (schedule_of junction first requests) i group.times t
    ≡ aspect_at (schedule_of junction first requests).plan i group.times
    (moment first t - (schedule_of junction first requests).begin)

-- which is soon after the last request
abbrev pub SettledSoonLaw : Type 0
SettledSoonLaw = (junction : JunctionView) (first : PlanView) (requests : List RequestView) (request : RequestView) →
    IsJunction junction → Fits junction first → AreRequests junction (requests ++ request ∷ []) →
    settled_at junction first (requests ++ request ∷ []) ≤ request.at + 669
