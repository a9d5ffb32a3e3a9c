-- Planned changes: which are made, and what is shown at a second where the later ones are still to come.
use Rattle.std.proofs.Common.{ℕ, zero, suc, List, [], ◌∷◌, ◌++◌, Some, length, take, drop, get_or, slice_get, ◌≡◌, ◌≢◌, ◌≤◌, ◌<◌, ◌+◌, inl, inr, refl, sym, ap, ◌∙◌, subst, arith, take-append-drop}
use Rattle.std.specs.Prelude.{All, AllPairs}
use Rattle.std.proofs.lemmas.Bool.{cases_lt}
use Rattle.std.proofs.lemmas.Option.{slice_get_within, slice_get_cases, get_or_from_slice_get}
use Rattle.std.proofs.lemmas.List.Elements.{All-nil, All-head, All-tail, All-cons}
use Rattle.std.proofs.lemmas.List.{take_all}
use Rattle.std.proofs.lemmas.List.Kept.{AllPairs-cons}
use Rattle.junction_model.specs.declared.group.Group.{Group}
use Rattle.junction_model.specs.Junction.{JunctionView}
use Rattle.junction_model.specs.Rules.{IsJunction}
use Rattle.plan_model.specs.Plan.{plan_of}
use Rattle.plan_model.specs.SignalPlan.{PlanView}
use Rattle.plan_model.specs.Fits.{Fits}
use Rattle.aspect_player.specs.Timetable.{row_by}
use Rattle.aspect_player.proofs.Timetable.{row_same}
use Rattle.plan_change.specs.declared.change_list.PlannedChange.{PlannedChange}
use Rattle.plan_change.specs.Schedule.{RequestView, schedule_of}
use Rattle.plan_change.specs.Changes.{AreRequests, schedule_display, change_display}
use Rattle.plan_change.specs.Planned.{planned, requests_planned, AreRising, ArePlannedFor, IsDueFrom}
use Rattle.plan_change.proofs.Past.{IsFrom}
use Rattle.plan_change.proofs.Stays.{pairs_head, pairs_tail, last_schedule_law, own_second_law}

above : (a b : ℕ) → a ≢ b → b ≤ a → b + 1 ≤ a
above a b differs from = elim (cases_lt b a) [
  | inl more ↦ omega arith
  | inr less ↦ absurd (differs (omega arith))
]

there : (changes : List PlannedChange) (k m : ℕ) (change : PlannedChange) → k < m → slice_get changes m ≡ Some change → (own : PlannedChange) × (slice_get changes k ≡ Some own)
there changes k m change order is = elim (slice_get_cases changes k).1 [
  | inl w ↦ (w.0, w.2)
  | inr w ↦ absurd (omega (arith, w.0, slice_get_within changes m change is))
]

rises : (changes : List PlannedChange) (k m : ℕ) (own change : PlannedChange) → AreRising changes → k < m → slice_get changes k ≡ Some own → slice_get changes m ≡ Some change → own.at < change.at
rises changes k m own change rising order one two =
    let pair = rising k m own order (slice_get_within changes m change two) in
    let first : get_or changes k own ≡ own = get_or_from_slice_get changes k own own one in
    let second : get_or changes m own ≡ change = get_or_from_slice_get changes m change own two in
    let a : (get_or changes k own).at ≡ own.at = ap (λ (x : PlannedChange). x.at) first in
    let b : (get_or changes m own).at ≡ change.at = ap (λ (x : PlannedChange). x.at) second in
    omega arith

pub due_more : (changes : List PlannedChange) (made second : ℕ) (own : PlannedChange) → AreRising changes → IsDueFrom changes made second →
    slice_get changes made ≡ Some own → own.at ≡ second → IsDueFrom changes (made + 1) (second + 1)
due_more changes made second own rising due is now = record {
  few = omega (arith, slice_get_within changes made own is);
  past = λ k change before at. elim (cases_lt k made) [
    | inl earlier ↦ omega (arith, due.past k change earlier at)
    | inr last ↦
        let same : k ≡ made = omega arith in
        let both : Some change ≡ Some own = sym at ∙ ap (slice_get changes) same ∙ is in
        let one : change ≡ own = cc in
        let seconds : change.at ≡ own.at = ap (λ (x : PlannedChange). x.at) one in
        omega arith
  ];
  coming = λ k change later at. omega (arith, rises changes made k own change rising (omega arith) is at);
}

pub due_same : (changes : List PlannedChange) (made second : ℕ) → AreRising changes → IsDueFrom changes made second →
    ((own : PlannedChange) → slice_get changes made ≡ Some own → own.at ≢ second) → IsDueFrom changes made (second + 1)
due_same changes made second rising due other = record {
  few = due.few;
  past = λ k change before at. omega (arith, due.past k change before at);
  coming = λ k change later at. elim (cases_lt made k) [
    | inl more ↦
        let own = there changes made k change more at in
        omega (arith, rises changes made k own.0 change rising more own.1 at, due.coming made own.0 (omega arith) own.1)
    | inr first ↦
        let same : k ≡ made = omega arith in
        let differs : change.at ≢ second = other change (ap (slice_get changes) (sym same) ∙ at) in
        above (change.at) second differs (due.coming k change later at)
  ];
}

late_all : (changes : List PlannedChange) (made t : ℕ) → ((k : ℕ) (change : PlannedChange) → made ≤ k → slice_get changes k ≡ Some change → t ≤ change.at) →
    All (IsFrom t) (requests_planned (drop made changes))
late_all [] zero t h = All-nil (IsFrom t)
late_all [] (suc made) t h = All-nil (IsFrom t)
late_all (x ∷ xs) zero t h =
    All-cons (IsFrom t) (planned x) (requests_planned xs) (h zero x (omega arith) refl) (late_all xs zero t (λ k change later at. h (suc k) change (omega arith) at))
late_all (x ∷ xs) (suc made) t h = late_all xs made t (λ k change later at. h (suc k) change (omega arith) at)

abbrev HasFit : JunctionView → RequestView → Type 0
HasFit junction r = Fits junction r.plan

abbrev IsFit : JunctionView → PlannedChange → Type 0
IsFit junction change = Fits junction (plan_of change.plan)

fit_all : (junction : JunctionView) (changes : List PlannedChange) → ArePlannedFor junction changes → All (HasFit junction) (requests_planned changes)
fit_all junction [] fit = All-nil (HasFit junction)
fit_all junction (x ∷ xs) fit =
    All-cons (HasFit junction) (planned x) (requests_planned xs) (All-head (IsFit junction) x xs fit) (fit_all junction xs (All-tail (IsFit junction) x xs fit))

abbrev IsAfter : RequestView → RequestView → Type 0
IsAfter a b = a.at ≤ b.at

abbrev Precedes : PlannedChange → PlannedChange → Type 0
Precedes a b = a.at < b.at

after_all : (x : PlannedChange) (xs : List PlannedChange) → All (Precedes x) xs → All (IsAfter (planned x)) (requests_planned xs)
after_all x [] h = All-nil (IsAfter (planned x))
after_all x (y ∷ ys) h =
    let first : x.at < y.at = All-head (Precedes x) y ys h in
    All-cons (IsAfter (planned x)) (planned y) (requests_planned ys) (omega arith) (after_all x ys (All-tail (Precedes x) y ys h))

ordered_all : (changes : List PlannedChange) → AreRising changes → AllPairs IsAfter (requests_planned changes)
ordered_all [] rising = λ i j d order h. absurd (omega arith)
ordered_all (x ∷ xs) rising =
    AllPairs-cons IsAfter (planned x) (requests_planned xs) (after_all x xs (pairs_head Precedes x xs rising)) (ordered_all xs (pairs_tail Precedes x xs rising))

pub planned_requests : (junction : JunctionView) (changes : List PlannedChange) → ArePlannedFor junction changes → AreRising changes → AreRequests junction (requests_planned changes)
planned_requests junction changes fit rising = record { fit = fit_all junction changes fit; ordered = ordered_all changes rising }

planned_more : (xs ys : List PlannedChange) → requests_planned (xs ++ ys) ≡ requests_planned xs ++ requests_planned ys
planned_more [] ys = refl
planned_more (x ∷ xs) ys = ap (λ l. planned x ∷ l) (planned_more xs ys)

-- what is shown before the later changes are made is what is shown with all of them
shows_due : (junction : JunctionView) (first : PlanView) (changes : List PlannedChange) (made t i : ℕ) (group : Group) →
    IsJunction junction → Fits junction first → ArePlannedFor junction changes → AreRising changes → IsDueFrom changes made t →
    slice_get junction.groups i ≡ Some group →
    schedule_display first (schedule_of junction first (requests_planned (take made changes))) i group.times t
    ≡ change_display junction first (requests_planned changes) i group.times t
shows_due junction first changes made t i group rules fits fit rising due is =
    let early : List RequestView = requests_planned (take made changes) in
    let late : List RequestView = requests_planned (drop made changes) in
    let asked : AreRequests junction (requests_planned changes) = planned_requests junction changes fit rising in
    let whole : requests_planned changes ≡ early ++ late =
    ap requests_planned (sym (take-append-drop made changes)) ∙ planned_more (take made changes) (drop made changes) in
    sym (last_schedule_law junction first (requests_planned changes) i t group rules fits asked is
    ∙ ap (λ rs. schedule_display first (schedule_of junction first rs) i group.times t) whole
    ∙ own_second_law junction first early late i t group rules fits (subst (AreRequests junction) whole asked) is
    (late_all changes made t due.coming))

-- and so is the row
pub row_due : (junction : JunctionView) (first : PlanView) (changes : List PlannedChange) (made t : ℕ) →
    IsJunction junction → Fits junction first → ArePlannedFor junction changes → AreRising changes → IsDueFrom changes made t →
    row_by junction (schedule_display first (schedule_of junction first (requests_planned (take made changes)))) t
    ≡ row_by junction (change_display junction first (requests_planned changes)) t
row_due junction first changes made t rules fits fit rising due =
    let before = schedule_display first (schedule_of junction first (requests_planned (take made changes))) in
    row_same junction before (change_display junction first (requests_planned changes)) t (λ i group is.
    shows_due junction first changes made t i group rules fits fit rising due is)

pub all_made : (changes : List PlannedChange) (made n : ℕ) → All (λ (change : PlannedChange). change.at < n) changes → IsDueFrom changes made n → take made changes ≡ changes
all_made changes made n within due = elim (cases_lt made (length changes)) [
  | inl left ↦ elim (slice_get_cases changes made).1 [
    | inl w ↦
        let late : n ≤ w.0.at = due.coming made w.0 (omega arith) w.2 in
        let own : (get_or changes made w.0).at ≡ w.0.at = ap (λ (x : PlannedChange). x.at) (get_or_from_slice_get changes made w.0 w.0 w.2) in
        let early : (get_or changes made w.0).at < n = within made w.0 left in
        absurd (omega arith)
    | inr w ↦ absurd (omega (arith, w.0))
  ]
  | inr all ↦ take_all made changes (omega arith)
]

pub same_change : (changes : List PlannedChange) (k : ℕ) (a b : PlannedChange) → slice_get changes k ≡ Some a → slice_get changes k ≡ Some b → a.at ≡ b.at
same_change changes k a b e f = let both : Some a ≡ Some b = sym e ∙ f in let one : a ≡ b = cc in ap (λ (x : PlannedChange). x.at) one
