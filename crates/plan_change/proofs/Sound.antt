-- What each schedule keeps, over all requests.
use Rattle.std.proofs.Common.{ℕ, Option, None, Some, List, [], ◌∷◌, ◌++◌, ◌≡◌, ◌≤◌, ◌<◌, ◌+◌, inl, inr, ◌⊎◌, refl, arith}
use Rattle.std.specs.Prelude.{fold, All}
use Rattle.std.specs.Option.{option_or}
use Rattle.std.proofs.lemmas.List.Elements.{All-head, All-tail}
use Rattle.conflict_matrix.specs.Matrix.{intergreen_of}
use Rattle.junction_model.specs.Junction.{JunctionView}
use Rattle.junction_model.specs.Rules.{IsJunction}
use Rattle.plan_model.specs.SignalPlan.{PlanView}
use Rattle.plan_model.specs.Fits.{Fits, group_count}
use Rattle.plan_change.specs.Schedule.{RequestView, Schedule, times_at, own_gap, change_gap, plan_runs, kept_runs, changed, first_schedule, moment, after_request, schedule_of}
use Rattle.plan_change.proofs.Schedule.{kept_is, kept_over, changed_is, plan_late, gap_holds, gap_holds_own}
use Rattle.plan_change.proofs.PlanRuns.{plan_spaced, plan_clear, plan_long}

pub record IsSound (junction : JunctionView) (s : Schedule) : Type 0 where
  -- the plan fits
  pub fits : Fits junction s.plan
  -- runs of one group leave its amber and red-amber between them
  pub spaced : (i a b g h : ℕ) → i < group_count junction → s.runs i a ≡ Some g → s.runs i b ≡ Some h → a < b → a + g + own_gap junction i ≤ b
  -- and those of conflicting groups their intergreen
  pub clear : (i j w a b g h : ℕ) → i < group_count junction → j < group_count junction → intergreen_of junction.conflicts i j ≡ Some w →
      s.runs i a ≡ Some g → s.runs j b ≡ Some h → a ≤ b → a + g + w ≤ b
  -- each run is long enough
  pub long : (i a g : ℕ) → i < group_count junction → s.runs i a ≡ Some g → ((times_at junction i).min_green ≤ g) × (1 ≤ g) × (g < 300)
  -- runs that start before the plan begins are over the gap before it
  pub early : (i a g : ℕ) → i < group_count junction → s.runs i a ≡ Some g → a < s.begin → a + g + change_gap junction ≤ s.begin
  -- and from then on there are the plan's alone
  pub played : (i a : ℕ) → i < group_count junction → s.begin ≤ a → s.runs i a ≡ plan_runs s.plan s.begin i a

pub first_sound : (junction : JunctionView) (p : PlanView) → IsJunction junction → Fits junction p → IsSound junction (first_schedule p)
first_sound junction p rules fits = record {
  fits = fits;
  spaced = plan_spaced junction p rules fits 0;
  clear = plan_clear junction p rules fits 0;
  long = plan_long junction p rules fits 0;
  early = λ i a g inside is before. absurd (omega arith);
  played = λ i a inside from. refl;
}

none_or : (x y : Option ℕ) → ((g : ℕ) → x ≡ Some g → ⊥) → option_or x y ≡ y
none_or None y never = refl
none_or (Some g) y never = absurd (never g refl)

module _ (junction : JunctionView) (s : Schedule) (n : ℕ) (p : PlanView) (rules : IsJunction junction) (fits : Fits junction p) (sound : IsSound junction s) where
  abbrev after : Schedule
  after = changed junction n p s

  -- a run of the new schedule is a kept one that ends the gap before the new plan begins, or one of the new plan
  abbrev IsOldRun : ℕ → ℕ → ℕ → Type 0
  IsOldRun i a g = (s.runs i a ≡ Some g) × (a + g + change_gap junction ≤ after.begin) × (1 ≤ g)

  abbrev IsNewRun : ℕ → ℕ → ℕ → Type 0
  IsNewRun i a g = (plan_runs p after.begin i a ≡ Some g) × (after.begin ≤ a)

  which : (i a g : ℕ) → i < group_count junction → after.runs i a ≡ Some g → IsOldRun i a g ⊎ IsNewRun i a g
  which i a g inside e = elim (changed_is junction s.runs n p i a g e) [
    | inl kept ↦
        let old = kept_is (s.runs i) (times_at junction i) n a g kept in
        let over = kept_over junction s.runs n i a g inside kept in
        inl (old.0, omega (arith, over), (sound.long i a g inside old.0).1)
    | inr new ↦ inr (new, plan_late p after.begin i a g new)
  ]

  changed_spaced : (i a b g h : ℕ) → i < group_count junction → after.runs i a ≡ Some g → after.runs i b ≡ Some h → a < b → a + g + own_gap junction i ≤ b
  changed_spaced i a b g h inside e f order = elim (which i a g inside e) [
    | inl x ↦ elim (which i b h inside f) [
      | inl y ↦ sound.spaced i a b g h inside x.0 y.0 order
      | inr y ↦ omega (arith, x.1, y.1, gap_holds_own junction i inside)
    ]
    | inr x ↦ elim (which i b h inside f) [
      | inl y ↦ absurd (omega (arith, x.1, y.1, y.2))
      | inr y ↦ plan_spaced junction p rules fits after.begin i a b g h inside x.0 y.0 order
    ]
  ]

  changed_clear : (i j w a b g h : ℕ) → i < group_count junction → j < group_count junction → intergreen_of junction.conflicts i j ≡ Some w →
      after.runs i a ≡ Some g → after.runs j b ≡ Some h → a ≤ b → a + g + w ≤ b
  changed_clear i j w a b g h hi hj is e f order = elim (which i a g hi e) [
    | inl x ↦ elim (which j b h hj f) [
      | inl y ↦ sound.clear i j w a b g h hi hj is x.0 y.0 order
      | inr y ↦ omega (arith, x.1, y.1, gap_holds junction i j w hi hj is)
    ]
    | inr x ↦ elim (which j b h hj f) [
      | inl y ↦ absurd (omega (arith, x.1, y.1, y.2))
      | inr y ↦ plan_clear junction p rules fits after.begin i j w a b g h hi hj is x.0 y.0 order
    ]
  ]

  changed_long : (i a g : ℕ) → i < group_count junction → after.runs i a ≡ Some g → ((times_at junction i).min_green ≤ g) × (1 ≤ g) × (g < 300)
  changed_long i a g inside e = elim (which i a g inside e) [
    | inl x ↦ sound.long i a g inside x.0
    | inr x ↦ plan_long junction p rules fits after.begin i a g inside x.0
  ]

  changed_early : (i a g : ℕ) → i < group_count junction → after.runs i a ≡ Some g → a < after.begin → a + g + change_gap junction ≤ after.begin
  changed_early i a g inside e before = elim (which i a g inside e) [
    | inl x ↦ x.1
    | inr x ↦ absurd (omega (arith, x.1))
  ]

  changed_played : (i a : ℕ) → i < group_count junction → after.begin ≤ a → after.runs i a ≡ plan_runs p after.begin i a
  changed_played i a inside from = none_or (kept_runs (s.runs i) (times_at junction i) n a) _ (λ g kept.
      let old = kept_is (s.runs i) (times_at junction i) n a g kept in
      let over = kept_over junction s.runs n i a g inside kept in
      let some = (sound.long i a g inside old.0).1 in
      omega arith)

  pub changed_sound : IsSound junction (changed junction n p s)
  changed_sound = record {
    fits = fits;
    spaced = changed_spaced;
    clear = changed_clear;
    long = changed_long;
    early = changed_early;
    played = changed_played;
  }

abbrev pub AreFitting : JunctionView → List RequestView → Type 0
AreFitting junction requests = All (λ (r : RequestView). Fits junction r.plan) requests

pub fold_sound : (junction : JunctionView) (first : PlanView) (rules : IsJunction junction) (requests : List RequestView) (s : Schedule) → IsSound junction s →
    AreFitting junction requests → IsSound junction (fold (after_request junction first) s requests)
fold_sound junction first rules [] s sound fit = sound
fold_sound junction first rules (r ∷ rs) s sound fit =
    fold_sound junction first rules rs (after_request junction first s r)
    (changed_sound junction s (moment first r.at) r.plan rules (All-head (λ (r : RequestView). Fits junction r.plan) r rs fit) sound) (All-tail (λ (r : RequestView). Fits junction r.plan) r rs fit)

pub sound : (junction : JunctionView) (first : PlanView) (requests : List RequestView) → IsJunction junction → Fits junction first →
    AreFitting junction requests → IsSound junction (schedule_of junction first requests)
sound junction first requests rules fits fit = fold_sound junction first rules requests (first_schedule first) (first_sound junction first rules fits) fit

pub fold_more : (junction : JunctionView) (first : PlanView) (s : Schedule) (requests more : List RequestView) →
    fold (after_request junction first) s (requests ++ more) ≡ fold (after_request junction first) (fold (after_request junction first) s requests) more
fold_more junction first s [] more = refl
fold_more junction first s (r ∷ rs) more = fold_more junction first (after_request junction first s r) rs more

pub one_more : (junction : JunctionView) (first : PlanView) (requests : List RequestView) (r : RequestView) →
    schedule_of junction first (requests ++ r ∷ []) ≡ after_request junction first (schedule_of junction first requests) r
one_more junction first requests r = fold_more junction first (first_schedule first) requests (r ∷ [])
