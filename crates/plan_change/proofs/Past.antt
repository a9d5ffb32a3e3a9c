-- The rows up to a second are told by the requests before it.
use Rattle.std.proofs.Common.{ℕ, List, [], ◌∷◌, ◌++◌, Some, cond, true, false, ltb, slice_get, ◌≡◌, ◌≤◌, ◌+◌, inl, inr, refl, sym, ap, ◌∙◌, subst, arith}
use Rattle.std.specs.Prelude.{All, AllPairs}
use Rattle.std.proofs.lemmas.Bool.{cases_lt, le-ltb, lt-ltb}
use Rattle.std.proofs.lemmas.List.Elements.{All-nil, All-cons, All-weaker}
use Rattle.junction_model.specs.declared.group.Group.{Group}
use Rattle.junction_model.specs.Junction.{JunctionView}
use Rattle.junction_model.specs.Rules.{IsJunction}
use Rattle.plan_model.specs.SignalPlan.{PlanView}
use Rattle.plan_model.specs.Fits.{Fits}
use Rattle.aspect_player.proofs.Timetable.{rows_same}
use Rattle.plan_change.specs.Schedule.{RequestView, schedule_of}
use Rattle.plan_change.specs.Changes.{AreRequests, requests_before, schedule_display, change_display}
use Rattle.plan_change.specs.Laws.{SharedPastLaw}
use Rattle.plan_change.proofs.Stays.{IsInOrder, pairs_head, pairs_tail, none_left, last_schedule_law, own_second_law}

abbrev pub IsFrom : ℕ → RequestView → Type 0
IsFrom t r = t ≤ r.at

none_before : (t : ℕ) (requests : List RequestView) → All (IsFrom t) requests → requests_before requests t ≡ []
none_before t requests late = none_left (λ (r : RequestView). ltb r.at t) requests
    (All-weaker (IsFrom t) (λ (r : RequestView). ltb r.at t ≡ false) (λ r h. le-ltb r.at t h) requests late)

-- those before the second come first in the list
record IsCut (t : ℕ) (requests later : List RequestView) : Type 0 where
  whole : requests ≡ requests_before requests t ++ later
  late : All (IsFrom t) later

cut : (t : ℕ) (requests : List RequestView) → AllPairs IsInOrder requests → (later : List RequestView) × IsCut t requests later
cut t [] ordered = ([], record { whole = refl; late = All-nil (IsFrom t) })
cut t (r ∷ rs) ordered = elim (cases_lt r.at t) [
  | inl early ↦
      let rest = cut t rs (pairs_tail IsInOrder r rs ordered) in
      let test : ltb r.at t ≡ true = lt-ltb r.at t early in
      let kept : requests_before (r ∷ rs) t ≡ r ∷ requests_before rs t =
      ap (λ b. cond b (r ∷ requests_before rs t) (requests_before rs t)) test in
      (rest.0, record { whole = ap (λ l. r ∷ l) rest.1.whole ∙ sym (ap (λ l. l ++ rest.0) kept); late = rest.1.late })
  | inr now ↦
      let later : All (IsFrom t) rs =
      All-weaker (IsInOrder r) (IsFrom t) (λ b h. omega arith) rs (pairs_head IsInOrder r rs ordered) in
      let all : All (IsFrom t) (r ∷ rs) = All-cons (IsFrom t) r rs now later in
      (r ∷ rs, record { whole = sym (ap (λ l. l ++ r ∷ rs) (none_before t (r ∷ rs) all)); late = all })
]

-- what is shown at a second up to t is told by the requests before t
pub shown_before : (junction : JunctionView) (first : PlanView) (requests : List RequestView) (t i u : ℕ) (group : Group) →
    IsJunction junction → Fits junction first → AreRequests junction requests → slice_get junction.groups i ≡ Some group → u ≤ t →
    change_display junction first requests i group.times u
    ≡ schedule_display first (schedule_of junction first (requests_before requests t)) i group.times u
shown_before junction first requests t i u group rules fits asked there early =
    let rest = cut t requests asked.ordered in
    let past : List RequestView = requests_before requests t in
    let same : requests ≡ past ++ rest.0 = rest.1.whole in
    last_schedule_law junction first requests i u group rules fits asked there
    ∙ ap (λ rs. schedule_display first (schedule_of junction first rs) i group.times u) same
    ∙ own_second_law junction first past rest.0 i u group rules fits (subst (AreRequests junction) same asked) there
    (All-weaker (IsFrom t) (λ (r : RequestView). u ≤ r.at) (λ r h. omega arith) rest.0 rest.1.late)

pub shared_past_law : SharedPastLaw
shared_past_law junction first requests other t rules fits asked asked_other same =
    rows_same junction (change_display junction first requests) (change_display junction first other) 0 (t + 1) (λ i u group there from below.
    let early : u ≤ t = omega arith in
    shown_before junction first requests t i u group rules fits asked there early
    ∙ ap (λ rs. schedule_display first (schedule_of junction first rs) i group.times u) same
    ∙ sym (shown_before junction first other t i u group rules fits asked_other there early))
