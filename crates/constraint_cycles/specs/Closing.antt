-- Walks that close an order, each of which shows that no starts meet it.
use Rattle.std.specs.Prelude.{ℕ, List, [], ◌∷◌, ◌<◌, ◌≤◌, slice_index}
use Rattle.conflict_matrix.specs.Matrix.{Matrix}
use Rattle.constraint_cycles.specs.Edge.{unserved_need, edge_weight}
use Rattle.constraint_cycles.specs.Walk.{IsPositiveCycle}
use Rattle.constraint_cycles.specs.declared.mark.Mark.{Mark}

-- no green that the group may have is enough: its need is then one second past the longest green
abbrev pub IsUnserved : Matrix → List ℕ → ℕ → Type 0
IsUnserved m needs g = (g < m.groups) × (unserved_need ≤ slice_index needs g)

-- the walk is of one unserved group, or a positive cycle
abbrev pub Closes : Matrix → List Mark → List ℕ → ℕ → List ℕ → Type 0
Closes m marks needs cycle (g ∷ []) = IsUnserved m needs g
Closes m marks needs cycle walk = IsPositiveCycle (edge_weight m marks needs cycle) walk
