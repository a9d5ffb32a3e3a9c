-- Starts of the groups that meet an order.
use Rattle.std.specs.Prelude.{ℕ, List, ℤ, pos, Some, ◌≡◌, ◌<◌, ◌≤◌, ◌-ℤ◌, ◌≤ℤ◌, slice_index}
use Rattle.conflict_matrix.specs.Matrix.{Matrix}
use Rattle.constraint_cycles.specs.Edge.{Edges, longest_green, edge_weight}
use Rattle.constraint_cycles.specs.declared.mark.Mark.{Mark}

-- each edge asks no more than the seconds between the starts of its groups
abbrev pub MeetsEdges : Edges → List ℕ → Type 0
MeetsEdges edge starts = (u v : ℕ) (w : ℤ) → edge u v ≡ Some w → w ≤ℤ (pos (slice_index starts v) -ℤ pos (slice_index starts u))

-- each group has a green that is enough, so none is unserved, and the starts meet all edges
pub record MeetsOrder (m : Matrix) (marks : List Mark) (needs : List ℕ) (cycle : ℕ) (starts : List ℕ) : Type 0 where
  pub served : (g : ℕ) → g < m.groups → slice_index needs g ≤ longest_green
  pub edges : MeetsEdges (edge_weight m marks needs cycle) starts
