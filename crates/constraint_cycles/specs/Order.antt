-- What contracts see of an order.
use Rattle.std.specs.Prelude.{ℕ, List, take}
use Rattle.conflict_matrix.specs.Conflicts.{matrix_of}
use Rattle.conflict_matrix.specs.declared.conflicts.Conflicts.{Conflicts}
use Rattle.constraint_cycles.specs.Marks.{OrderView}
use Rattle.constraint_cycles.specs.Edge.{Edges, edge_weight}
use Rattle.constraint_cycles.specs.Closing.{Closes}
use Rattle.constraint_cycles.specs.Starts.{MeetsOrder}
use Rattle.constraint_cycles.specs.declared.mark.Mark.{Mark}
use Rattle.constraint_cycles.specs.declared.order.Order.{Order}

abbrev pub order_of : Order → OrderView
order_of o = record { marks = take o.count o.marks; fixed = o.fixed }

abbrev pub marks_of : Order → List Mark
marks_of o = (order_of o).marks

-- the edges of the order for the green that each group needs
abbrev pub edges_for : Conflicts → Order → List ℕ → ℕ → Edges
edges_for conflicts order needs cycle = edge_weight (matrix_of conflicts) (marks_of order) needs cycle

-- the order is closed by the walk
abbrev pub IsClosedBy : Conflicts → Order → List ℕ → ℕ → List ℕ → Type 0
IsClosedBy conflicts order needs cycle walk = Closes (matrix_of conflicts) (marks_of order) needs cycle walk

-- the order is met by the starts
abbrev pub IsMetBy : Conflicts → Order → List ℕ → ℕ → List ℕ → Type 0
IsMetBy conflicts order needs cycle starts = MeetsOrder (matrix_of conflicts) (marks_of order) needs cycle starts
