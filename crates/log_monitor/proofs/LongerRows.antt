-- What a list of rows shows when rows are added to it.
use Rattle.std.proofs.Common.{ℕ, zero, suc, List, [], ◌∷◌, ◌++◌, length, length-append, Some, ◌≡◌, ◌≢◌, ◌⊎◌, ◌<◌, ◌+◌, slice_get, option_and_then, inl, inr, refl, sym, ap, ◌∙◌, arith}
use Rattle.std.proofs.lemmas.Bool.{cases_lt}
use Rattle.std.proofs.lemmas.List.Elements.{All-head, All-tail}
use Rattle.std.proofs.lemmas.Option.{slice_get_within}
use Rattle.junction_model.specs.Junction.{JunctionView}
use Rattle.plan_model.specs.Fits.{group_count}
use Rattle.aspect_player.specs.declared.aspect.Aspect.{Aspect}
use Rattle.aspect_player.specs.declared.aspect.Aspect.TheVariants.{Red, RedAmber, Green, Amber}
use Rattle.aspect_player.specs.Safe.{Shows, ShowsOther}
use Rattle.aspect_player.proofs.Timetable.{in_rows}
use Rattle.log_monitor.specs.Violations.{AreRows}

pub element : {X : Type 0} (xs : List X) (i : ℕ) → i < length xs → (x : X) × (slice_get xs i ≡ Some x)
element [] i h = absurd (omega arith)
element (x ∷ xs) zero h = (x, refl)
element (x ∷ xs) (suc i) h = element xs i (omega arith)

pub green_or_not : (aspect : Aspect) → (aspect ≡ Green) ⊎ (aspect ≢ Green)
green_or_not Green = inl refl
green_or_not Red = inr (λ e. cc e)
green_or_not RedAmber = inr (λ e. cc e)
green_or_not Amber = inr (λ e. cc e)

pub amber_or_not : (aspect : Aspect) → (aspect ≡ Amber) ⊎ (aspect ≢ Amber)
amber_or_not Amber = inl refl
amber_or_not Red = inr (λ e. cc e)
amber_or_not RedAmber = inr (λ e. cc e)
amber_or_not Green = inr (λ e. cc e)

row_kept : (rows more : List (List Aspect)) (t : ℕ) → t < length rows → slice_get (rows ++ more) t ≡ slice_get rows t
row_kept [] more t h = absurd (omega arith)
row_kept (row ∷ rows) more zero h = refl
row_kept (row ∷ rows) more (suc t) h = row_kept rows more t (omega arith)

row_added : (rows more : List (List Aspect)) (row : List Aspect) → slice_get (rows ++ row ∷ more) (length rows) ≡ Some row
row_added [] more row = refl
row_added (first ∷ rows) more row = row_added rows more row

pub shown_group : (junction : JunctionView) (rows : List (List Aspect)) (t i : ℕ) (aspect : Aspect) → AreRows junction rows →
    Shows rows t i aspect → i < group_count junction
shown_group junction [] t i aspect are e = cc
shown_group junction (row ∷ rows) zero i aspect are e = omega (arith, slice_get_within row i aspect e, All-head (λ r. length r ≡ group_count junction) row rows are)
shown_group junction (row ∷ rows) (suc t) i aspect are e = shown_group junction rows t i aspect (All-tail (λ r. length r ≡ group_count junction) row rows are) e

pub shown_some : (junction : JunctionView) (rows : List (List Aspect)) (t i : ℕ) → AreRows junction rows → t < length rows →
    i < group_count junction → (aspect : Aspect) × Shows rows t i aspect
shown_some junction [] t i are h inside = absurd (omega arith)
shown_some junction (row ∷ rows) zero i are h inside = element row i (omega (arith, inside, All-head (λ r. length r ≡ group_count junction) row rows are))
shown_some junction (row ∷ rows) (suc t) i are h inside = shown_some junction rows t i (All-tail (λ r. length r ≡ group_count junction) row rows are) (omega arith) inside

pub longer : (rows more : List (List Aspect)) (t i : ℕ) (aspect : Aspect) → Shows rows t i aspect → Shows (rows ++ more) t i aspect
longer rows more t i aspect e = ap (option_and_then (λ row. slice_get row i)) (row_kept rows more t (in_rows rows t i aspect e)) ∙ e

pub shorter : (rows more : List (List Aspect)) (t i : ℕ) (aspect : Aspect) → t < length rows → Shows (rows ++ more) t i aspect →
    Shows rows t i aspect
shorter rows more t i aspect h e = sym (ap (option_and_then (λ row. slice_get row i)) (row_kept rows more t h)) ∙ e

pub longer_other : (rows more : List (List Aspect)) (t i : ℕ) → ShowsOther rows t i → ShowsOther (rows ++ more) t i
longer_other rows more t i other = (other.0, longer rows more t i other.0 other.1, other.2)

pub shorter_other : (rows more : List (List Aspect)) (t i : ℕ) → t < length rows → ShowsOther (rows ++ more) t i → ShowsOther rows t i
shorter_other rows more t i h other = (other.0, shorter rows more t i other.0 h other.1, other.2)

pub last_full : (junction : JunctionView) (rows : List (List Aspect)) (row : List Aspect) → AreRows junction (rows ++ row ∷ []) →
    length row ≡ group_count junction
last_full junction [] row are = All-head (λ r. length r ≡ group_count junction) row [] are
last_full junction (first ∷ rows) row are = last_full junction rows row (All-tail (λ r. length r ≡ group_count junction) first (rows ++ row ∷ []) are)

-- ---- one row more

module _ (rows : List (List Aspect)) (row : List Aspect) where
  pub row_count : length (rows ++ row ∷ []) ≡ length rows + 1
  row_count = length-append rows (row ∷ [])

  pub shown_new : (i : ℕ) (aspect : Aspect) → slice_get row i ≡ Some aspect → Shows (rows ++ row ∷ []) (length rows) i aspect
  shown_new i aspect e = ap (option_and_then (λ row. slice_get row i)) (row_added rows [] row) ∙ e

  pub new_shown : (t i : ℕ) (aspect : Aspect) → t ≡ length rows → Shows (rows ++ row ∷ []) t i aspect → slice_get row i ≡ Some aspect
  new_shown t i aspect at e = sym (ap (option_and_then (λ row. slice_get row i)) (ap (slice_get (rows ++ row ∷ [])) at ∙ row_added rows [] row)) ∙ e

  -- a row that shows the group is one of before, or the new one
  pub old_or_new : (t i : ℕ) (aspect : Aspect) → Shows (rows ++ row ∷ []) t i aspect →
      ((t < length rows) × Shows rows t i aspect) ⊎ ((t ≡ length rows) × (slice_get row i ≡ Some aspect))
  old_or_new t i aspect e = elim (cases_lt t (length rows)) [
    | inl old ↦ inl (old, shorter rows (row ∷ []) t i aspect old e)
    | inr new ↦ let h : t ≡ length rows = omega (arith, in_rows (rows ++ row ∷ []) t i aspect e, row_count) in inr (h, new_shown t i aspect h e)
  ]
