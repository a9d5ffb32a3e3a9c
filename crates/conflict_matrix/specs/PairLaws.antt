-- What the numbered pairs of a table are.
use Rattle.std.specs.Prelude.{ℕ, length, Some, ◌≡◌, ◌+◌, ◌<◌, ◌≤◌, ◌⊎◌, slice_get}
use Rattle.conflict_matrix.specs.Matrix.{Matrix, IsMatrix, AreConflicting}
use Rattle.conflict_matrix.specs.Pairs.{pairs_of, fixed_pairs, free_pairs, pair_number_of, IsPairNumber}

-- two groups of the table that conflict, the lower one first
pub record IsPair (m : Matrix) (pair : ℕ × ℕ) : Type 0 where
  pub rising : pair.0 < pair.1
  pub within : pair.1 < m.groups
  pub conflicting : AreConflicting m pair.0 pair.1

-- every numbered pair is such a pair, and has its number
abbrev pub PairLaw : Type 0
PairLaw = (m : Matrix) (k : ℕ) (pair : ℕ × ℕ) → slice_get (pairs_of m) k ≡ Some pair →
    IsPair m pair × (pair_number_of m pair.0 pair.1 ≡ Some k)

-- two groups have a pair number exactly where they conflict, and it is the number of their pair
abbrev pub PairNumberLaw : Type 0
PairNumberLaw = (m : Matrix) (i j : ℕ) → IsMatrix m → i < m.groups → j < m.groups → IsPairNumber m i j (pair_number_of m i j)

-- numbers rise with the lower group, then with the higher one; so the pairs with group 0 have the lowest numbers
abbrev pub RisingPairsLaw : Type 0
RisingPairsLaw = (m : Matrix) (k n : ℕ) (pair later : ℕ × ℕ) →
    slice_get (pairs_of m) k ≡ Some pair → slice_get (pairs_of m) n ≡ Some later → k < n →
    (pair.0 < later.0) ⊎ ((pair.0 ≡ later.0) × (pair.1 < later.1))

-- as many as 16 groups can have at most
abbrev pub PairCountLaw : Type 0
PairCountLaw = (m : Matrix) → IsMatrix m → length (pairs_of m) ≤ 120

-- each pair is with group 0 or without it
abbrev pub PairSumLaw : Type 0
PairSumLaw = (m : Matrix) → fixed_pairs m + free_pairs m ≡ length (pairs_of m)
