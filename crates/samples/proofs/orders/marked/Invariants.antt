use Rattle.conflict_matrix.specs.Conflicts.{matrix_of}
use Rattle.constraint_cycles.specs.Marks.{IsOrderFor}
use Rattle.constraint_cycles.specs.Order.{order_of}
use Rattle.samples.proofs.orders.marked.Given as goal

abbrev pub invariant-loop-k : goal.invariant-loop-k
invariant-loop-k l = IsOrderFor (matrix_of l.conflicts) (order_of l.order)
