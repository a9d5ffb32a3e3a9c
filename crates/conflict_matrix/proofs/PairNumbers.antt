-- The number of a pair is its place among the numbered pairs, and only conflicting groups have one.
use Rattle.std.proofs.Common.{ℕ, ◌≡◌, ◌<◌, ◌≤◌, ◌⊎◌, ◌&&◌, ◌==◌, inl, inr, refl, ap, sym, ◌∙◌, subst, min, max, length, List, get_or, Bool, true, false, Option, Some, None, slice_get, arith}
use Rattle.std.specs.List.{position, position_or_len}
use Rattle.std.proofs.lemmas.Bool.{cases_lt, cases_order}
use Rattle.std.proofs.lemmas.Bool.Decides.{nat_tests}
use Rattle.std.proofs.lemmas.Option.{none-some, slice_get_within, slice_get_read, get_or_from_slice_get}
use Rattle.std.proofs.lemmas.List.Quantifiers.{position-Some}
use Rattle.std.proofs.lemmas.List.Sums.{position_or_len_is}
use Rattle.conflict_matrix.specs.Matrix.{Matrix, IsMatrix, AreConflicting}
use Rattle.conflict_matrix.specs.Pairs.{pairs_of, pair_number_of, lower_first, IsPairNumber}
use Rattle.conflict_matrix.specs.PairLaws.{IsPair, PairLaw, PairNumberLaw, RisingPairsLaw, PairCountLaw}
use Rattle.conflict_matrix.proofs.PairOrder.{pairs_conflict, pairs_rise, pairs_have, pairs_few, IsBefore}

before_differs : (p : ℕ × ℕ) (i j : ℕ) → IsBefore p (i, j) → ((p.0 == i) && (p.1 == j)) ≡ false
before_differs p i j h = grind (arith, nat_tests)

same_passes : (i j : ℕ) → ((i == i) && (j == j)) ≡ true
same_passes i j = grind (arith, nat_tests)

same_from_test : (p : ℕ × ℕ) (i j : ℕ) → ((p.0 == i) && (p.1 == j)) ≡ true → p ≡ (i, j)
same_from_test p i j h = grind (arith, nat_tests)

position_is : (p : ℕ × ℕ → Bool) (xs : List (ℕ × ℕ)) (k : ℕ) (d : ℕ × ℕ) → k < length xs → ((n : ℕ) → n < k → p (get_or xs n d) ≡ false) → p (get_or xs k d) ≡ true → position p xs ≡ Some k
position_is p xs k d within before here =
    let at : position_or_len p xs ≡ k = position_or_len_is p xs k d (omega arith) before (λ _. here) in
    grind (arith, nat_tests)

pub number_at : (m : Matrix) (k i j : ℕ) → slice_get (pairs_of m) k ≡ Some (lower_first i j) → pair_number_of m i j ≡ Some k
number_at m k i j at =
    let within = slice_get_within (pairs_of m) k (lower_first i j) at in
    let is : get_or (pairs_of m) k (lower_first i j) ≡ lower_first i j = get_or_from_slice_get (pairs_of m) k (lower_first i j) (lower_first i j) at in
    position_is (λ pair. (pair.0 == min i j) && (pair.1 == max i j)) (pairs_of m) k (lower_first i j) within
    (λ n before. before_differs (get_or (pairs_of m) n (lower_first i j)) (min i j) (max i j) (rw is at (pairs_rise m n k (lower_first i j) before within)))
    (rw is (same_passes (min i j) (max i j)))

pub pair_at : (m : Matrix) (k : ℕ) (pair : ℕ × ℕ) → slice_get (pairs_of m) k ≡ Some pair → IsPair m pair
pair_at m k pair at = rw (get_or_from_slice_get (pairs_of m) k pair pair at) at (pairs_conflict m k pair (slice_get_within (pairs_of m) k pair at))

rising_pair : (i j : ℕ) → i ≤ j → lower_first i j ≡ (i, j)
rising_pair i j h =
    let low : min i j ≡ i = omega arith in
    let high : max i j ≡ j = omega arith in
    rw (low, high) refl

falling_pair : (i j : ℕ) → j < i → lower_first i j ≡ (j, i)
falling_pair i j h =
    let low : min i j ≡ j = omega arith in
    let high : max i j ≡ i = omega arith in
    rw (low, high) refl

pub pair_law : PairLaw
pair_law m k pair at =
    let is = pair_at m k pair at in
    (is, number_at m k pair.0 pair.1 (at ∙ ap Some (sym (rising_pair pair.0 pair.1 (omega (arith, is.rising))))))

conflict_pair : (m : Matrix) (i j : ℕ) → IsMatrix m → i < m.groups → j < m.groups → AreConflicting m i j → IsPair m (lower_first i j)
conflict_pair m i j matrix first second c =
    let few = matrix.few.1 in
    elim (cases_order i j) [
      | inl same ↦ absurd (matrix.apart i (omega arith) (rw (← same) at c))
      | inr apart ↦ elim apart [
        | inl below ↦ subst (IsPair m) (sym (rising_pair i j (omega arith))) (record { rising = below; within = second; conflicting = c })
        | inr above ↦ subst (IsPair m) (sym (falling_pair i j above)) (record { rising = above; within = first; conflicting = matrix.symmetric i j (omega arith) (omega arith) c })
      ]
    ]

pair_conflict : (m : Matrix) (i j : ℕ) → IsMatrix m → i < m.groups → j < m.groups → IsPair m (lower_first i j) → AreConflicting m i j
pair_conflict m i j matrix first second pair =
    let few = matrix.few.1 in
    elim (cases_lt j i) [
      | inl above ↦ matrix.symmetric j i (omega arith) (omega arith) (subst (IsPair m) (falling_pair i j above) pair).conflicting
      | inr upto ↦ (subst (IsPair m) (rising_pair i j upto) pair).conflicting
    ]

-- a pair number is the number of the pair
pub number_is : (m : Matrix) (i j k : ℕ) → pair_number_of m i j ≡ Some k → slice_get (pairs_of m) k ≡ Some (lower_first i j)
number_is m i j k is =
    let found = position-Some (λ pair. (pair.0 == min i j) && (pair.1 == max i j)) (pairs_of m) k (lower_first i j) is in
    slice_get_read (pairs_of m) (length (pairs_of m)) k (lower_first i j) refl found.0 (sym (same_from_test (get_or (pairs_of m) k (lower_first i j)) (min i j) (max i j) found.1))

-- the place of two groups that conflict
lower_first_place : (m : Matrix) (i j : ℕ) → IsMatrix m → i < m.groups → j < m.groups → AreConflicting m i j →
    (k : ℕ) × (slice_get (pairs_of m) k ≡ Some (lower_first i j))
lower_first_place m i j matrix first second c =
    let has = pairs_have m (min i j) (max i j) (conflict_pair m i j matrix first second c) in
    (has.0, slice_get_read (pairs_of m) (length (pairs_of m)) has.0 (lower_first i j) refl has.1 (sym has.2))

-- in one sense or the other
pub pair_place : (m : Matrix) → IsMatrix m → (i j : ℕ) → i < m.groups → j < m.groups → AreConflicting m i j →
    (k : ℕ) × ((slice_get (pairs_of m) k ≡ Some (i, j)) ⊎ (slice_get (pairs_of m) k ≡ Some (j, i)))
pair_place m matrix i j first second c =
    let place = lower_first_place m i j matrix first second c in
    elim (cases_lt j i) [
      | inl above ↦ (place.0, inr (place.1 ∙ ap Some (falling_pair i j above)))
      | inr upto ↦ (place.0, inl (place.1 ∙ ap Some (rising_pair i j upto)))
    ]

number_cases : (m : Matrix) (i j : ℕ) (number : Option ℕ) → pair_number_of m i j ≡ number → IsMatrix m → i < m.groups → j < m.groups →
    IsPairNumber m i j number
number_cases m i j None is matrix first second = λ c.
    let place = lower_first_place m i j matrix first second c in
    none-some place.0 (sym is ∙ number_at m place.0 i j place.1)
number_cases m i j (Some k) is matrix first second = number_is m i j k is

pub pair_number_law : PairNumberLaw
pair_number_law m i j matrix first second = number_cases m i j (pair_number_of m i j) refl matrix first second

no_number : (m : Matrix) (i j : ℕ) (number : Option ℕ) → pair_number_of m i j ≡ number → IsMatrix m → i < m.groups → j < m.groups → ¬ AreConflicting m i j → number ≡ None
no_number m i j None is matrix first second apart = refl
no_number m i j (Some k) is matrix first second apart =
    absurd (apart (pair_conflict m i j matrix first second (pair_at m k (lower_first i j) (number_cases m i j (Some k) is matrix first second))))

pub none_apart : (m : Matrix) (i j : ℕ) → IsMatrix m → i < m.groups → j < m.groups → ¬ AreConflicting m i j → pair_number_of m i j ≡ None
none_apart m i j matrix first second apart = no_number m i j (pair_number_of m i j) refl matrix first second apart

pub rising_pairs_law : RisingPairsLaw
rising_pairs_law m k n pair later at then below =
    rw (get_or_from_slice_get (pairs_of m) k pair pair at, get_or_from_slice_get (pairs_of m) n later pair then)
    at (pairs_rise m k n pair below (slice_get_within (pairs_of m) n later then))

pub pair_count_law : PairCountLaw
pair_count_law m matrix = pairs_few m matrix.few.1
