-- Rows and cells of sums that are written one after another, and sums that fit their type.
use Rattle.std.proofs.Common.{ℕ, List, [], ◌≡◌, ◌+◌, ◌%◌, ◌<◌, inl, inr, ◌∙◌, arith, rules, ℤ, pos, ◌+ℤ◌, to_z, of_z, FitsSigned, set, length, slice_index_or}
use Rattle.std.proofs.lemmas.Bool.{cases_eq}
use Rattle.std.proofs.lemmas.List.{get_or-set_same, get_or-set_other}
use Rattle.std.proofs.lemmas.Int.{ints, int_wrap_fits, wrapping_add_is}
use mir.Syntax.{w16}
use Rattle.constraint_cycles.specs.Edge.{IsWeight}
use Rattle.difference_system.specs.Sums.{cell_of, IsSmall}

pub cells_next : (P : ℕ → ℤ → Type 0) (row : List ℤ) (to : ℕ) (new : ℤ) → to < length row → P to new → ((k : ℕ) → k < to → P k (cell_of row k)) →
    (k : ℕ) → k < to + 1 → P k (cell_of (set row to new) k)
cells_next P row to new within here before k below = elim (cases_eq k to) [
  | inl same ↦ rw (same, get_or-set_same row to new (pos 0) within) here
  | inr other ↦ rw (get_or-set_other row to k new (pos 0) other) (before k (omega (arith, other)))
]

pub rows_next : (P : ℕ → ℕ → ℤ → Type 0) (rows : List (List ℤ)) (groups group : ℕ) (new : List ℤ) → group < length rows →
    ((y : ℕ) → y < groups → P group y (cell_of new y)) → ((x y : ℕ) → x < group → y < groups → P x y (cell_of (slice_index_or rows x []) y)) →
    (x y : ℕ) → x < group + 1 → y < groups → P x y (cell_of (slice_index_or (set rows group new) x []) y)
rows_next P rows groups group new within here before x y below in_y = elim (cases_eq x group) [
  | inl same ↦ rw (same, get_or-set_same rows group new [] within) (here y in_y)
  | inr other ↦ rw (get_or-set_other rows group x new [] other) (before x y (omega (arith, other)) in_y)
]

pub weight_small : (w : ℤ) → IsWeight w → IsSmall w
weight_small w h = record { least = omega (arith, ints, h.least); greatest = omega (arith, ints, h.greatest) }

-- small sums fit their type
pub small_kept : (w : ℤ) → IsSmall w → to_z w16 (of_z w16 w) ≡ w
small_kept w h = omega (arith, ints, h.least, h.greatest)

pub sum_kept : (a b : ℤ) → IsSmall a → IsSmall b → to_z w16 (of_z w16 (to_z w16 (of_z w16 a) +ℤ to_z w16 (of_z w16 b))) ≡ a +ℤ b
sum_kept a b h k = omega (arith, ints, h.least, h.greatest, k.least, k.greatest)

small_fits : (w : ℤ) → IsSmall w → FitsSigned w16 w
small_fits w h = search (rules, ints)

both_fit : (a b : ℤ) → IsSmall a → IsSmall b → FitsSigned w16 (a +ℤ b)
both_fit a b h k = search (rules, ints)

pub sum_fits : (a b : ℤ) → IsSmall a → IsSmall b → FitsSigned w16 (to_z w16 (of_z w16 a) +ℤ to_z w16 (of_z w16 b))
sum_fits a b h k = rw (small_kept a h, small_kept b k) (both_fit a b h k)

pub sum_wraps : (a b : ℤ) → IsSmall a → IsSmall b → to_z w16 ((of_z w16 a + of_z w16 b) % 65536) ≡ a +ℤ b
sum_wraps a b h k = wrapping_add_is w16 a b (small_fits a h) (small_fits b k) ∙ int_wrap_fits w16 (a +ℤ b) (both_fit a b h k)
