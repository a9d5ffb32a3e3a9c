-- The pairs with group 0 and those without it: they are all pairs, and those without it are few.
use Rattle.std.proofs.Common.{ℕ, suc, List, [], ◌∷◌, ◌++◌, ◌≡◌, ◌≢◌, ◌≤◌, ◌+◌, ◌-◌, Bool, true, false, cond, not, refl, ap, ◌∙◌, subst, length, map, take, Some, slice_get, arith, mul-le-mul_left}
use Rattle.std.specs.List.{count_by}
use Rattle.std.proofs.lemmas.Bool.Decides.{nat_tests}
use Rattle.std.proofs.lemmas.List.Sums.{sum_by-cons, sum_by-append, count_by-le-length, count_by_more_yes, count_by_more_no}
use Rattle.std.proofs.lemmas.Option.{slice_get_within, get_or_from_slice_get}
use Rattle.conflict_matrix.specs.Matrix.{Matrix, IsMatrix}
use Rattle.conflict_matrix.specs.Pairs.{later_partners, row_of, pairs_of, has_group_0, is_free, free_pairs}
use Rattle.conflict_matrix.specs.PairLaws.{PairSumLaw}
use Rattle.conflict_matrix.proofs.PairOrder.{rows_from, rows_few}

pub first_test : (pair : ℕ × ℕ) → pair.0 ≡ 0 → has_group_0 pair ≡ true
first_test pair h = grind (arith, nat_tests)

pub other_test : (pair : ℕ × ℕ) → pair.0 ≢ 0 → has_group_0 pair ≡ false
other_test pair h = grind (arith, nat_tests)

pub first_count : (pair : ℕ × ℕ) (pairs : List (ℕ × ℕ)) → count_by has_group_0 (pair ∷ pairs) ≡ cond (has_group_0 pair) 1 0 + count_by has_group_0 pairs
first_count pair pairs = sum_by-cons (λ (p : ℕ × ℕ). cond (has_group_0 p) 1 0) pair pairs

pub one_more_free : (pairs : List (ℕ × ℕ)) (k : ℕ) (pair : ℕ × ℕ) → slice_get pairs k ≡ Some pair → pair.0 ≢ 0 → count_by is_free (take (k + 1) pairs) ≡ count_by is_free (take k pairs) + 1
one_more_free pairs k pair at other = count_by_more_yes is_free pairs k pair (slice_get_within pairs k pair at) (ap is_free (get_or_from_slice_get pairs k pair pair at) ∙ ap not (other_test pair other))

pub no_more_free : (pairs : List (ℕ × ℕ)) (k : ℕ) (pair : ℕ × ℕ) → slice_get pairs k ≡ Some pair → pair.0 ≡ 0 → count_by is_free (take (k + 1) pairs) ≡ count_by is_free (take k pairs)
no_more_free pairs k pair at first = count_by_more_no is_free pairs k pair (slice_get_within pairs k pair at) (ap is_free (get_or_from_slice_get pairs k pair pair at) ∙ ap not (first_test pair first))

one_of_both : (with_first : Bool) (fixed free pairs : ℕ) → fixed + free ≡ pairs → (cond with_first 1 0 + fixed) + (cond (not with_first) 1 0 + free) ≡ suc pairs
one_of_both true fixed free pairs h = omega arith
one_of_both false fixed free pairs h = omega arith

each_counted : (pairs : List (ℕ × ℕ)) → count_by has_group_0 pairs + count_by is_free pairs ≡ length pairs
each_counted [] = refl
each_counted (pair ∷ pairs) =
    rw (first_count pair pairs, sum_by-cons (λ (p : ℕ × ℕ). cond (is_free p) 1 0) pair pairs)
    (one_of_both (has_group_0 pair) (count_by has_group_0 pairs) (count_by is_free pairs) (length pairs) (each_counted pairs))

pub pair_sum_law : PairSumLaw
pair_sum_law m = each_counted (pairs_of m)

none_free : (js : List ℕ) → count_by is_free (map (λ j. (0, j)) js) ≡ 0
none_free [] = refl
none_free (j ∷ js) = none_free js

-- they stand in the rows after the first one
free_later : (m : Matrix) (n : ℕ) → count_by is_free (rows_from m 0 (suc n)) ≤ length (rows_from m 1 n)
free_later m n =
    let both : count_by is_free (row_of m 0 ++ rows_from m 1 n) ≡ count_by is_free (row_of m 0) + count_by is_free (rows_from m 1 n) =
    sum_by-append _ (row_of m 0) (rows_from m 1 n) in
    omega (arith, both, none_free (later_partners m 0), count_by-le-length is_free (rows_from m 1 n))

-- as many as 15 groups can have at most
pub free_pairs_few : (m : Matrix) → IsMatrix m → free_pairs m ≤ 105
free_pairs_few m matrix =
    let few = matrix.few in
    let inside : m.groups - 1 ≤ 15 = omega arith in
    let all : suc (m.groups - 1) ≡ m.groups = omega arith in
    let free = subst (λ (n : ℕ). count_by is_free (rows_from m 0 n) ≤ length (rows_from m 1 (m.groups - 1))) all (free_later m (m.groups - 1)) in
    omega (arith, free, rows_few m 1 (m.groups - 1) (omega arith), mul-le-mul_left (m.groups - 1) inside)
