-- The conflicting pairs of a table, by number.
use Rattle.std.specs.Prelude.{ℕ, List, Bool, Option, Some, length, ◌≡◌, ◌+◌, ◌-◌, ◌^◌, ◌==◌, ◌&&◌, filter, map, is_some, min, max, not, MatchOption, slice_get}
use Rattle.std.specs.List.{count_by, flat_map, position, range_with_len}
use Rattle.conflict_matrix.specs.Matrix.{Matrix, intergreen_of, AreConflicting}

-- the groups that conflict with group i and have a greater number, rising
abbrev pub later_partners : Matrix → ℕ → List ℕ
later_partners m i = filter (λ j. is_some (intergreen_of m i j)) (range_with_len (i + 1) (m.groups - (i + 1)))

-- the conflicting pairs (i, j) with i below j, by rising j
abbrev pub row_of : Matrix → ℕ → List (ℕ × ℕ)
row_of m i = map (λ j. (i, j)) (later_partners m i)

-- those of all groups, by rising i, then j
abbrev pub pairs_of : Matrix → List (ℕ × ℕ)
pairs_of m = flat_map (row_of m) (range_with_len 0 m.groups)

abbrev pub has_group_0 : ℕ × ℕ → Bool
has_group_0 pair = pair.0 == 0

-- the conflicting pairs with group 0
abbrev pub fixed_pairs : Matrix → ℕ
fixed_pairs m = count_by has_group_0 (pairs_of m)

abbrev pub is_free : ℕ × ℕ → Bool
is_free pair = not (has_group_0 pair)

-- those without it, of which a search tree decides each at most once on a branch
abbrev pub free_pairs : Matrix → ℕ
free_pairs m = count_by is_free (pairs_of m)

-- the nodes of a whole binary tree with a level for each free pair, one for each link, and one for its leaves
abbrev pub tree_cover_of : Matrix → ℕ
tree_cover_of m = 2 ^ (free_pairs m + length m.links + 1) - 1

-- the two groups, the lower one first
abbrev pub lower_first : ℕ → ℕ → ℕ × ℕ
lower_first i j = (min i j, max i j)

-- the number of the pair of groups i and j, in either sense; none where they don't conflict
abbrev pub pair_number_of : Matrix → ℕ → ℕ → Option ℕ
pair_number_of m i j = position (λ pair. (pair.0 == min i j) && (pair.1 == max i j)) (pairs_of m)

-- the answer is the number of the pair of groups i and j, or none where they don't conflict
abbrev pub IsPairNumber : Matrix → ℕ → ℕ → Option ℕ → Type 0
IsPairNumber m i j answer = MatchOption answer (¬ AreConflicting m i j) (λ k. slice_get (pairs_of m) k ≡ Some (lower_first i j))
