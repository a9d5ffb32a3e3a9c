-- The runs of a schedule after a request: those that it keeps, and those of the new plan.
use Rattle.std.proofs.Common.{ℕ, Bool, true, false, Option, None, Some, if◌then◌else◌, ◌≡◌, ◌≤◌, ◌<◌, ◌+◌, ◌-◌, ◌*◌, ◌/◌, ◌%◌, ltb, max, unwrap_or, slice_get, inl, inr, ◌⊎◌, refl, sym, ap, ◌∙◌, arith}
use Rattle.std.specs.Option.{option_or, option_map_or}
use Rattle.std.proofs.lemmas.Bool.{cases_lt, false≢true, and_parts, and_from, or_left, or_right, not_from_false, eqb-true, eq-eqb, false_from_ne_true, le-leb, leb-true, lt-ltb, ltb-true, not-true, or_cases}
use Rattle.std.proofs.Math.Nat.{div-add-mod', mul-mod_left}
use Rattle.conflict_matrix.specs.Matrix.{intergreen_of}
use Rattle.sig_base.specs.declared.group_times.GroupTimes.{GroupTimes}
use Rattle.junction_model.specs.declared.group.Group.{Group}
use Rattle.junction_model.specs.Junction.{JunctionView}
use Rattle.plan_model.specs.SignalPlan.{PlanView, start_of, green_of}
use Rattle.plan_model.specs.Fits.{group_count}
use Rattle.plan_change.specs.Runs.{Runs, some_run}
use Rattle.plan_change.specs.Schedule.{times_at, own_gap, greatest_from, change_gap, plan_runs, is_kept, kept_runs, last_end, end_of_kept, begin_after, changed_runs}
use Rattle.plan_change.proofs.Tests.{found_run, run_found, greatest_most}
use Rattle.plan_change.proofs.Runs.{GreenIn, AmberIn, SoonIn, shown_red_amber, red_amber_shown}

some_same : (a b : ℕ) → Some a ≡ Some b → a ≡ b
some_same a b e = cc

either : (x y : Option ℕ) (g : ℕ) → option_or x y ≡ Some g → (x ≡ Some g) ⊎ (y ≡ Some g)
either None y g e = inr e
either (Some x) y g e = inl e

-- the group shows red-amber at n, and the run that starts at a is its next one
abbrev pub IsAnnounced : Runs → GroupTimes → ℕ → ℕ → Type 0
IsAnnounced runs times n a = SoonIn runs times.red_amber n × ¬ GreenIn runs n × ¬ AmberIn runs times.amber n ×
    ((b g : ℕ) → runs b ≡ Some g → n < b → a ≤ b)

abbrev pub Keeps : Runs → GroupTimes → ℕ → ℕ → Type 0
Keeps runs times n a = (a ≤ n) ⊎ IsAnnounced runs times n a

not_before : (runs : Runs) (n a b g : ℕ) → some_run runs a (λ b g. ltb n b) ≡ false → runs b ≡ Some g → n < b → a ≤ b
not_before runs n a b g none is after = elim (cases_lt b a) [
  | inl before ↦ absurd (false≢true (sym none ∙ run_found runs a (λ b g. ltb n b) b g before is (lt-ltb n b after)))
  | inr later ↦ later
]

pub kept_keeps : (runs : Runs) (times : GroupTimes) (n a : ℕ) → is_kept runs times n a ≡ true → Keeps runs times n a
kept_keeps runs times n a e = elim (or_cases _ _ e) [
  | inl old ↦ inl (leb-true a n old)
  | inr new ↦
      let parts = and_parts _ _ new in
      let soon = shown_red_amber runs times n parts.0 in
      let none = not-true _ parts.1 in
      inr (soon.0, soon.1, soon.2, (λ b g is after. not_before runs n a b g none is after))
]

none_before : (runs : Runs) (n a : ℕ) → ((b g : ℕ) → runs b ≡ Some g → n < b → a ≤ b) → some_run runs a (λ b g. ltb n b) ≡ false
none_before runs n a first = false_from_ne_true (some_run runs a (λ b g. ltb n b)) (λ e.
    let r = found_run runs a (λ b g. ltb n b) e in
    let early : r.0 < a = r.2 in
    let late : a ≤ r.0 = first r.0 r.1 r.3 (ltb-true _ _ r.4) in
    omega arith)

pub keeps_kept : (runs : Runs) (times : GroupTimes) (n a : ℕ) → Keeps runs times n a → is_kept runs times n a ≡ true
keeps_kept runs times n a (inl old) = or_left _ _ (le-leb a n old)
keeps_kept runs times n a (inr new) =
    or_right _ _ (and_from _ _ (red_amber_shown runs times n new.0 new.1 new.2) (not_from_false _ (none_before runs n a new.3)))

if_some : (c : Bool) (x : Option ℕ) (g : ℕ) → (if c then x else None) ≡ Some g → (c ≡ true) × (x ≡ Some g)
if_some true x g e = (refl, e)
if_some false x g e = cc

pub kept_is : (runs : Runs) (times : GroupTimes) (n a g : ℕ) → kept_runs runs times n a ≡ Some g → (runs a ≡ Some g) × Keeps runs times n a
kept_is runs times n a g e = let both = if_some _ _ g e in (both.1, kept_keeps runs times n a both.0)

pub is_kept_run : (runs : Runs) (times : GroupTimes) (n a g : ℕ) → runs a ≡ Some g → Keeps runs times n a → kept_runs runs times n a ≡ Some g
is_kept_run runs times n a g is keeps = let yes = keeps_kept runs times n a keeps in rw yes is

-- a kept run starts at most the red-amber after the request
pub kept_soon : (runs : Runs) (times : GroupTimes) (n a : ℕ) → Keeps runs times n a → a ≤ n + times.red_amber
kept_soon runs times n a (inl old) = omega arith
kept_soon runs times n a (inr new) =
    let soon = new.0 in let first : a ≤ soon.0 = new.3 soon.0 soon.1 soon.2 soon.3 in omega (arith, soon.4)

-- where a run of the plan starts
pub planned : (p : PlanView) (b i a g : ℕ) → plan_runs p b i a ≡ Some g → (g ≡ green_of p i) × (m : ℕ) × (a ≡ b + start_of p i + m * p.cycle)
planned p b i a g e =
    let both = if_some _ _ g e in
    let tests = and_parts _ _ both.0 in
    let from : b + start_of p i ≤ a = leb-true _ _ tests.0 in
    let round : (a - (b + start_of p i)) % p.cycle ≡ 0 = eqb-true _ _ tests.1 in
    let whole = div-add-mod' (a - (b + start_of p i)) p.cycle in
    let value : green_of p i ≡ g = some_same (green_of p i) g both.1 in
    (sym value, (a - (b + start_of p i)) / p.cycle, omega (arith, whole))

pub plan_run : (p : PlanView) (b i m : ℕ) → plan_runs p b i (b + start_of p i + m * p.cycle) ≡ Some (green_of p i)
plan_run p b i m =
    let from : b + start_of p i ≤ b + start_of p i + m * p.cycle = omega arith in
    let past : b + start_of p i + m * p.cycle - (b + start_of p i) ≡ m * p.cycle = omega arith in
    let round : (b + start_of p i + m * p.cycle - (b + start_of p i)) % p.cycle ≡ 0 = ap (λ x. x % p.cycle) past ∙ mul-mod_left m p.cycle in
    let test = and_from _ _ (le-leb _ _ from) (eq-eqb _ _ round) in
    rw test refl

pub plan_late : (p : PlanView) (b i a g : ℕ) → plan_runs p b i a ≡ Some g → b ≤ a
plan_late p b i a g e = let is = planned p b i a g e in omega (arith, is.2)

pub times_there : (junction : JunctionView) (i : ℕ) (group : Group) → slice_get junction.groups i ≡ Some group → times_at junction i ≡ group.times
times_there junction i group there = rw there refl

module _ (junction : JunctionView) (runs : ℕ → Runs) (n : ℕ) where
  -- each kept run is over at the end
  pub kept_over : (i a g : ℕ) → i < group_count junction → kept_runs (runs i) (times_at junction i) n a ≡ Some g → a + g ≤ end_of_kept junction runs n
  kept_over i a g inside e =
      let is = kept_is (runs i) (times_at junction i) n a g e in
      let early = kept_soon (runs i) (times_at junction i) n a is.1 in
      let ends : ℕ → ℕ = λ b. option_map_or (λ h. b + h) (kept_runs (runs i) (times_at junction i) n b) 0 in
      let own : ends a ≡ a + g = ap (λ (o : Option ℕ). option_map_or (λ h. a + h) o 0) e in
      let one = greatest_most (n + (times_at junction i).red_amber + 1) ends a (omega (arith, early)) in
      let all = greatest_most (group_count junction) (λ j. last_end (runs j) (times_at junction j) n) i inside in
      omega (arith, own, one, all)

  pub after_request : n + 1 ≤ end_of_kept junction runs n
  after_request = omega arith

  pub changed_is : (p : PlanView) (i a g : ℕ) → changed_runs junction runs n p i a ≡ Some g →
      (kept_runs (runs i) (times_at junction i) n a ≡ Some g) ⊎ (plan_runs p (begin_after junction runs n) i a ≡ Some g)
  changed_is p i a g e = either _ _ g e

-- the gap holds each intergreen, and amber and red-amber
pub gap_holds : (junction : JunctionView) (i j w : ℕ) → i < group_count junction → j < group_count junction → intergreen_of junction.conflicts i j ≡ Some w → w ≤ change_gap junction
gap_holds junction i j w hi hj is =
    let n = group_count junction in
    let own : unwrap_or (intergreen_of junction.conflicts i j) 0 ≡ w = ap (λ (o : Option ℕ). unwrap_or o 0) is in
    let row = greatest_most n (λ k. unwrap_or (intergreen_of junction.conflicts i k) 0) j hj in
    let all = greatest_most n (λ m. max (greatest_from junction m) (own_gap junction m)) i hi in
    omega (arith, own, row, all)

pub gap_holds_own : (junction : JunctionView) (i : ℕ) → i < group_count junction → own_gap junction i ≤ change_gap junction
gap_holds_own junction i h = let all = greatest_most (group_count junction) (λ m. max (greatest_from junction m) (own_gap junction m)) i h in omega (arith, all)
