-- The conflicts of a sample, as entries of their table.
use Rattle.std.specs.Prelude.{ℕ, List, [], ◌∷◌, Bool, Option, None, Some, ◌+◌, ◌-◌, ◌==◌, if◌then◌else◌, map}
use Rattle.std.specs.List.{range_with_len, flat_map, cons_option}
use Rattle.conflict_matrix.specs.declared.entry.Entry.{Entry}
use Rattle.sample_junctions.specs.Draws.{state_after, draw}

-- the pairs (i, j) with j above i
abbrev pub pairs_above : ℕ → ℕ → List (ℕ × ℕ)
pairs_above count i = map (λ j. (i, j)) (range_with_len (i + 1) (count - (i + 1)))

-- the pairs (i, j) with i below j of so many groups, by rising i, then j
abbrev pub all_pairs : ℕ → List (ℕ × ℕ)
all_pairs count = flat_map (pairs_above count) (range_with_len 0 count)

-- each group conflicts with the next one
abbrev pub are_neighbours : ℕ × ℕ → Bool
are_neighbours pair = pair.1 == pair.0 + 1

-- other pairs conflict where the first draw from the state x on is one of three
abbrev pub is_chosen : ℕ → Bool
is_chosen x = draw x 0 3 == 0

-- the conflict of a pair: from the state x on, a draw for each direction
abbrev pub drawn_entry : ℕ → ℕ × ℕ → Entry
drawn_entry x pair = record { a = pair.0; b = pair.1; a_to_b = 5 + draw x 0 4; b_to_a = 5 + draw x 1 4 }

-- what is drawn for a pair from the state x on
abbrev pub conflict_of : ℕ → ℕ × ℕ → Option Entry
conflict_of x pair =
    (if are_neighbours pair then Some (drawn_entry x pair) else (if is_chosen x then Some (drawn_entry (state_after x 1) pair) else None))

-- the number of draws that a pair takes from the state x on
abbrev pub draws_of : ℕ → ℕ × ℕ → ℕ
draws_of x pair = (if are_neighbours pair then 2 else (if is_chosen x then 3 else 1))

-- the conflicts among pairs, which are drawn one after another, from the state x on
abbrev pub drawn_conflicts : ℕ → List (ℕ × ℕ) → List Entry
drawn_conflicts x [] = []
drawn_conflicts x (pair ∷ rest) = cons_option (conflict_of x pair) (drawn_conflicts (state_after x (draws_of x pair)) rest)
