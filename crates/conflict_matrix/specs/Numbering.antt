-- The numbers of a table's conflicting pairs, kept for look-up both ways.
use Rattle.std.specs.Prelude.{ℕ, List, ◌≡◌, ◌+◌, ◌*◌, ◌<◌, ◌≤◌, Some, length, take, slice_get, slice_index, slice_set}
use Rattle.conflict_matrix.specs.Matrix.{Matrix, AreConflicting}
use Rattle.conflict_matrix.specs.Pairs.{pairs_of, lower_first}
use Rattle.conflict_matrix.specs.declared.numbering.Numbering.{Numbering}

-- the pairs, by number
abbrev pub numbered_pairs : Numbering → List (ℕ × ℕ)
numbered_pairs n = take n.count n.pairs

-- the numbering with one more pair, whose number stands in its cells of both senses
abbrev pub with_pair : Numbering → ℕ → ℕ → Numbering
with_pair n i j = record {
  count = n.count + 1;
  pairs = slice_set n.pairs n.count (i, j);
  numbers = slice_set (slice_set n.numbers (16 * i + j) n.count) (16 * j + i) n.count;
}

-- its arrays are whole, and there is room for one more pair
pub record HasRoom (n : Numbering) : Type 0 where
  pub pairs : length n.pairs ≡ 120
  pub numbers : length n.numbers ≡ 256
  pub more : n.count < 120

-- the pairs of a table are numbered
pub record IsNumbering (m : Matrix) (n : Numbering) : Type 0 where
  pub few : n.count ≤ 120
  pub whole : numbered_pairs n ≡ pairs_of m
  pub numbered : (i j : ℕ) → i < 16 → j < 16 → AreConflicting m i j → slice_get (pairs_of m) (slice_index n.numbers (16 * i + j)) ≡ Some (lower_first i j)

-- a pair has its number in both of its cells
pub record HasNumber (n : Numbering) (i j : ℕ) : Type 0 where
  pub rising : slice_get (numbered_pairs n) (slice_index n.numbers (16 * i + j)) ≡ Some (i, j)
  pub falling : slice_index n.numbers (16 * j + i) ≡ slice_index n.numbers (16 * i + j)

-- so have the conflicting pairs whose cell stands before a bound
pub record IsNumberedBelow (m : Matrix) (n : Numbering) (bound : ℕ) : Type 0 where
  pub few : n.count ≤ 120
  pub numbered : (i j : ℕ) → i < j → j < 16 → 16 * i + j < bound → AreConflicting m i j → HasNumber n i j
