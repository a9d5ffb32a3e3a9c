-- What contracts see of a difference system.
use Rattle.std.specs.Prelude.{ℕ}
use Rattle.conflict_matrix.specs.Conflicts.{matrix_of}
use Rattle.constraint_cycles.specs.Order.{marks_of}
use Rattle.constraint_cycles.specs.Edge.{Edges, edge_weight}
use Rattle.difference_system.specs.State.{IsState}
use Rattle.difference_system.specs.declared.state.State.{State}
use Rattle.difference_system.specs.declared.system.System.{System}

abbrev pub groups_of : System → ℕ
groups_of s = (matrix_of s.conflicts.now).groups

unfoldable pub edges_of : System → Edges
edges_of s = edge_weight (matrix_of s.conflicts.now) (marks_of s.order.now) s.needs.now s.cycle

-- starts of its groups, with their trails along its edges
abbrev pub IsStateOf : System → State → Type 0
IsStateOf s = IsState (edges_of s) (groups_of s)
