-- A request changes no aspect of its own second and before, so all rows are those of the last schedule.
use Rattle.std.proofs.Common.{ℕ, suc, Bool, Option, Some, List, [], ◌∷◌, ◌++◌, cond, true, false, leb, ◌≡◌, ◌≤◌, ◌<◌, ◌+◌, slice_get, inl, inr, refl, sym, ap, ◌∙◌, arith}
use Rattle.std.specs.Prelude.{fold, filter, All, AllPairs}
use Rattle.std.specs.Option.{option_or}
use Rattle.std.proofs.lemmas.Bool.{cases_lt, le-leb, lt-leb}
use Rattle.std.proofs.lemmas.List.Elements.{All-nil, All-head, All-tail, All-cons, All-weaker}
use Rattle.std.proofs.lemmas.Option.{slice_get_within}
use Rattle.junction_model.specs.declared.group.Group.{Group}
use Rattle.junction_model.specs.Junction.{JunctionView}
use Rattle.junction_model.specs.Rules.{IsJunction}
use Rattle.plan_model.specs.SignalPlan.{PlanView}
use Rattle.plan_model.specs.Fits.{Fits, group_count}
use Rattle.aspect_player.specs.declared.aspect.Aspect.{Aspect}
use Rattle.plan_change.specs.Runs.{shown_at}
use Rattle.plan_change.specs.Schedule.{RequestView, Schedule, times_at, plan_runs, changed, first_schedule, moment, after_request, schedule_of}
use Rattle.plan_change.specs.Changes.{standing, schedule_display, change_display, AreRequests}
use Rattle.plan_change.specs.Laws.{OwnSecondLaw, LastScheduleLaw}
use Rattle.plan_change.proofs.Runs.{same_shown}
use Rattle.plan_change.proofs.Schedule.{Keeps, is_kept_run, kept_is, changed_is, plan_late, gap_holds_own, times_there}
use Rattle.plan_change.proofs.Sound.{IsSound, AreFitting, changed_sound, sound, first_sound, fold_more}

pub pairs_head : {X : Type 0} (R : X → X → Type 0) (x : X) (xs : List X) → AllPairs R (x ∷ xs) → All (R x) xs
pairs_head R x xs pairs k d h = pairs 0 (suc k) d (omega arith) (omega arith)

pub pairs_tail : {X : Type 0} (R : X → X → Type 0) (x : X) (xs : List X) → AllPairs R (x ∷ xs) → AllPairs R xs
pairs_tail R x xs pairs i j d order h = pairs (suc i) (suc j) d (omega arith) (omega arith)

pub All-front : {X : Type 0} (P : X → Type 0) (xs ys : List X) → All P (xs ++ ys) → All P xs
All-front P [] ys all = All-nil P
All-front P (x ∷ xs) ys all =
    All-cons P x xs (All-head P x (xs ++ ys) all) (All-front P xs ys (All-tail P x (xs ++ ys) all))

All-back : {X : Type 0} (P : X → Type 0) (xs ys : List X) → All P (xs ++ ys) → All P ys
All-back P [] ys all = all
All-back P (x ∷ xs) ys all = All-back P xs ys (All-tail P x (xs ++ ys) all)

-- a test that none passes leaves none
pub none_left : (test : RequestView → Bool) (requests : List RequestView) →
    All (λ (r : RequestView). test r ≡ false) requests → filter test requests ≡ []
none_left test [] fails = refl
none_left test (r ∷ rs) fails =
    ap (λ b. cond b (r ∷ filter test rs) (filter test rs)) (All-head (λ (r : RequestView). test r ≡ false) r rs fails)
    ∙ none_left test rs (All-tail (λ (r : RequestView). test r ≡ false) r rs fails)

module _ (junction : JunctionView) (s : Schedule) (n : ℕ) (p : PlanView) (sound : IsSound junction s) (i : ℕ) (inside : i < group_count junction) where
  abbrev after : Schedule
  after = changed junction n p s

  -- a run that the request keeps
  pub stays : (a g : ℕ) → s.runs i a ≡ Some g → Keeps (s.runs i) (times_at junction i) n a → after.runs i a ≡ Some g
  stays a g is keeps = ap (λ (o : Option ℕ). option_or o (plan_runs p after.begin i a)) (is_kept_run (s.runs i) (times_at junction i) n a g is keeps)

  -- a run that starts before the new plan begins stood before
  pub stood : (a g : ℕ) → after.runs i a ≡ Some g → a < after.begin → s.runs i a ≡ Some g
  stood a g is before = elim (changed_is junction s.runs n p i a g is) [
    | inl kept ↦ (kept_is (s.runs i) (times_at junction i) n a g kept).0
    | inr new ↦ let late = plan_late p after.begin i a g new in absurd (omega arith)
  ]

  -- a run that is announced
  pub announced : (a g : ℕ) → s.runs i a ≡ Some g → a ≤ n + (times_at junction i).red_amber → Keeps (s.runs i) (times_at junction i) n a
  announced a g is near = elim (cases_lt n a) [
    | inr old ↦ inl old
    | inl new ↦ inr (
      (a, g, is, new, near),
      (λ on. let far = sound.spaced i on.0 a on.1 g inside on.2 is (omega (arith, on.3)) in absurd (omega (arith, on.4, far))),
      (λ on. let far = sound.spaced i on.0 a on.1 g inside on.2 is (omega (arith, on.3)) in absurd (omega (arith, on.4, far))),
      (λ b h run later. elim (cases_lt b a) [
        | inl before ↦ let far = sound.spaced i b a h g inside run is before in absurd (omega arith)
        | inr fine ↦ fine
      ]),
    )
  ]

  pub same_aspect : (t : ℕ) → t ≤ n → shown_at (after.runs i) (times_at junction i) t ≡ shown_at (s.runs i) (times_at junction i) t
  same_aspect t early =
      let own = gap_holds_own junction i inside in
      same_shown (after.runs i) (s.runs i) (times_at junction i) t t
      (λ on. (on.0, on.1, stood on.0 on.1 on.2 (omega (arith, on.3)), on.3, on.4))
      (λ on. (on.0, on.1, stays on.0 on.1 on.2 (inl (omega (arith, on.3))), on.3, on.4))
      (λ on. (on.0, on.1, stood on.0 on.1 on.2 (omega (arith, on.3)), on.3, on.4))
      (λ on. (on.0, on.1, stays on.0 on.1 on.2 (inl (omega (arith, on.3))), on.3, on.4))
      (λ on. (on.0, on.1, stood on.0 on.1 on.2 (omega (arith, on.4)), on.3, on.4))
      (λ on. (on.0, on.1, stays on.0 on.1 on.2 (announced on.0 on.1 on.2 (omega (arith, on.4))), on.3, on.4))

abbrev IsLate : ℕ → RequestView → Type 0
IsLate t r = t < r.at

abbrev pub IsInOrder : RequestView → RequestView → Type 0
IsInOrder a b = a.at ≤ b.at

module _ (junction : JunctionView) (first : PlanView) (rules : IsJunction junction) (i t : ℕ) (inside : i < group_count junction) where
  abbrev shown : Schedule → Aspect
  shown s = shown_at (s.runs i) (times_at junction i) (moment first t)

  -- no later request changes the aspect
  pub late_same : (requests : List RequestView) (s : Schedule) → IsSound junction s → AreFitting junction requests → All (λ (r : RequestView). t ≤ r.at) requests →
      shown (fold (after_request junction first) s requests) ≡ shown s
  late_same [] s kept fit late = refl
  late_same (r ∷ rs) s kept fit late =
      let next : IsSound junction (after_request junction first s r) = changed_sound junction s (moment first r.at) r.plan rules (All-head (λ (r : RequestView). Fits junction r.plan) r rs fit) kept in
      let now : t ≤ r.at = All-head (λ (r : RequestView). t ≤ r.at) r rs late in
      late_same rs (after_request junction first s r) next (All-tail (λ (r : RequestView). Fits junction r.plan) r rs fit) (All-tail (λ (r : RequestView). t ≤ r.at) r rs late)
      ∙ same_aspect junction s (moment first r.at) r.plan kept i inside (moment first t) (omega arith)

  none_standing : (requests : List RequestView) → All (IsLate t) requests → standing requests t ≡ []
  none_standing requests late = none_left (λ (r : RequestView). leb r.at t) requests
      (All-weaker (IsLate t) (λ (r : RequestView). leb r.at t ≡ false) (λ r h. lt-leb r.at t h) requests late)

  all_same : (requests : List RequestView) (s : Schedule) → IsSound junction s → AreFitting junction requests → AllPairs IsInOrder requests →
      shown (fold (after_request junction first) s (standing requests t)) ≡ shown (fold (after_request junction first) s requests)
  all_same [] s kept fit ordered = refl
  all_same (r ∷ rs) s kept fit ordered = elim (cases_lt t r.at) [
    | inl late ↦
        let later : All (IsLate t) rs = All-weaker (IsInOrder r) (IsLate t) (λ b h. omega arith) rs (pairs_head IsInOrder r rs ordered) in
        let whole : All (IsLate t) (r ∷ rs) = All-cons (IsLate t) r rs late later in
        ap (λ xs. shown (fold (after_request junction first) s xs)) (none_standing (r ∷ rs) whole)
        ∙ sym (late_same (r ∷ rs) s kept fit (All-weaker (IsLate t) (λ (b : RequestView). t ≤ b.at) (λ b h. omega arith) (r ∷ rs) whole))
    | inr now ↦
        let next : IsSound junction (after_request junction first s r) = changed_sound junction s (moment first r.at) r.plan rules (All-head (λ (r : RequestView). Fits junction r.plan) r rs fit) kept in
        let in' : leb r.at t ≡ true = le-leb r.at t now in
        ap (λ b. shown (fold (after_request junction first) s (cond b (r ∷ standing rs t) (standing rs t)))) in'
        ∙ all_same rs (after_request junction first s r) next (All-tail (λ (r : RequestView). Fits junction r.plan) r rs fit) (pairs_tail IsInOrder r rs ordered)
  ]

-- what is shown is what the last schedule shows
pub shows_last : (junction : JunctionView) (first : PlanView) (requests : List RequestView) (i t : ℕ) (group : Group) → IsJunction junction → Fits junction first →
    AreRequests junction requests → slice_get junction.groups i ≡ Some group →
    change_display junction first requests i group.times t ≡ shown_at ((schedule_of junction first requests).runs i) (times_at junction i) (moment first t)
shows_last junction first requests i t group rules fits asked there =
    let times = times_there junction i group there in
    ap (λ x. change_display junction first requests i x t) (sym times)
    ∙ all_same junction first rules i t (slice_get_within _ _ _ there) requests (first_schedule first) (first_sound junction first rules fits) asked.fit asked.ordered

pub last_schedule_law : LastScheduleLaw
last_schedule_law junction first requests i t group rules fits asked there =
    shows_last junction first requests i t group rules fits asked there
    ∙ ap (λ x. shown_at ((schedule_of junction first requests).runs i) x (moment first t)) (times_there junction i group there)

pub own_second_law : OwnSecondLaw
own_second_law junction first requests later i t group rules fits asked there late =
    let s : Schedule = schedule_of junction first requests in
    let times = times_there junction i group there in
    let whole : schedule_of junction first (requests ++ later) ≡ fold (after_request junction first) s later =
    fold_more junction first (first_schedule first) requests later in
    let kept = sound junction first requests rules fits (All-front (λ (r : RequestView). Fits junction r.plan) requests later asked.fit) in
    ap (λ (x : Schedule). schedule_display first x i group.times t) whole
    ∙ ap (λ x. schedule_display first (fold (after_request junction first) s later) i x t) (sym times)
    ∙ late_same junction first rules i t (slice_get_within _ _ _ there) later s kept
    (All-back (λ (r : RequestView). Fits junction r.plan) requests later asked.fit) late
    ∙ ap (λ x. schedule_display first s i x t) times
