-- The pairs with group 0 come first, so the root order is First at these and Open at all others.
use Rattle.std.proofs.Common.{ℕ, zero, suc, List, [], ◌∷◌, ◌++◌, ◌≡◌, ◌≢◌, ◌<◌, ◌≤◌, ◌-◌, ◌⊎◌, ◌↔◌, refl, ap, ◌∙◌, Some, length, map, replicate, slice_get, count_by, inl, inr, arith}
use Rattle.std.proofs.lemmas.Bool.{cases_eq}
use Rattle.conflict_matrix.specs.Pairs.{has_group_0}
use Rattle.conflict_matrix.proofs.FreePairs.{first_test, other_test, first_count}
use Rattle.constraint_cycles.specs.Marks.{root_mark}
use Rattle.constraint_cycles.specs.declared.mark.Mark.TheVariants.{Open, First}

-- the pairs rise with the lower group, then with the higher one
abbrev pub AreRising : List (ℕ × ℕ) → Type 0
AreRising pairs = (k n : ℕ) (pair later : ℕ × ℕ) → slice_get pairs k ≡ Some pair → slice_get pairs n ≡ Some later → k < n → (pair.0 < later.0) ⊎ ((pair.0 ≡ later.0) × (pair.1 < later.1))

-- the marks, and where the pairs with group 0 stand
pub record IsRoot (pairs : List (ℕ × ℕ)) : Type 0 where
  pub within : count_by has_group_0 pairs ≤ length pairs
  pub marks : map root_mark pairs ≡ replicate (count_by has_group_0 pairs) First ++ replicate (length pairs - count_by has_group_0 pairs) Open
  pub first : (k : ℕ) (pair : ℕ × ℕ) → slice_get pairs k ≡ Some pair → (pair.0 ≡ 0) ↔ (k < count_by has_group_0 pairs)

none_first : (pairs : List (ℕ × ℕ)) → ((k : ℕ) (pair : ℕ × ℕ) → slice_get pairs k ≡ Some pair → pair.0 ≢ 0) →
    (count_by has_group_0 pairs ≡ 0) × (map root_mark pairs ≡ replicate (length pairs) Open)
none_first [] h = (refl, refl)
none_first (pair ∷ pairs) h =
    let later = none_first pairs (λ k. h (suc k)) in
    let here = other_test pair (h 0 pair refl) in
    (first_count pair pairs ∙ rw (here, later.0) refl, rw (here, later.1) refl)

first_stands : (w : ℕ) (pair : ℕ × ℕ) (pairs : List (ℕ × ℕ)) → pair.0 ≡ 0 → ((k : ℕ) (p : ℕ × ℕ) → slice_get pairs k ≡ Some p → (p.0 ≡ 0) ↔ (k < w)) →
    (k : ℕ) (p : ℕ × ℕ) → slice_get (pair ∷ pairs) k ≡ Some p → (p.0 ≡ 0) ↔ (k < suc w)
first_stands w pair pairs first later zero p at =
    let same : pair ≡ p = cc in
    (λ _. omega arith, λ _. rw (← same) first)
first_stands w pair pairs first later (suc k) p at =
    let here = later k p at in
    (λ is. omega (arith, here.0 is), λ below. here.1 (omega arith))

root_more : (pair : ℕ × ℕ) (pairs : List (ℕ × ℕ)) → pair.0 ≡ 0 → IsRoot pairs → IsRoot (pair ∷ pairs)
root_more pair pairs first h =
    let here = first_test pair first in
    let count : count_by has_group_0 (pair ∷ pairs) ≡ suc (count_by has_group_0 pairs) = first_count pair pairs ∙ rw here (omega arith) in
    let left : length (pair ∷ pairs) - suc (count_by has_group_0 pairs) ≡ length pairs - count_by has_group_0 pairs = omega arith in
    record {
      within = omega (arith, count, h.within);
      marks = rw (count, left, here) (ap (λ marks. First ∷ marks) h.marks);
      first = rw count (first_stands (count_by has_group_0 pairs) pair pairs first h.first);
    }

none_later : (pair : ℕ × ℕ) (pairs : List (ℕ × ℕ)) → pair.0 ≢ 0 → AreRising (pair ∷ pairs) → (k : ℕ) (p : ℕ × ℕ) → slice_get (pair ∷ pairs) k ≡ Some p → p.0 ≢ 0
none_later pair pairs other h zero p at = let same : pair ≡ p = cc in rw same at other
none_later pair pairs other h (suc k) p at = let after = h 0 (suc k) pair p refl at (omega arith) in λ is. other (omega (arith, after, is))

root_none : (pair : ℕ × ℕ) (pairs : List (ℕ × ℕ)) → pair.0 ≢ 0 → AreRising (pair ∷ pairs) → IsRoot (pair ∷ pairs)
root_none pair pairs other h =
    let none = none_later pair pairs other h in
    let all = none_first (pair ∷ pairs) none in
    let left : length (pair ∷ pairs) - 0 ≡ length (pair ∷ pairs) = omega arith in
    record {
      within = omega (arith, all.0);
      marks = rw (all.0, left) all.1;
      first = λ k p at. (λ is. absurd (none k p at is), λ below. absurd (omega (arith, all.0)));
    }

pub rooted : (pairs : List (ℕ × ℕ)) → AreRising pairs → IsRoot pairs
rooted [] h = record { within = omega arith; marks = refl; first = λ k pair at. cc }
rooted (pair ∷ pairs) h =
    let rest = rooted pairs (λ k n p later at at_later le. h (suc k) (suc n) p later at at_later (omega arith)) in
    elim (cases_eq pair.0 0) [
      | inl first ↦ root_more pair pairs first rest
      | inr other ↦ root_none pair pairs other h
    ]
