use Rattle.conflict_matrix.specs.Conflicts.{matrix_of, pairs_of}
use Rattle.constraint_cycles.proofs.RootMarks.{IsBegun}
use Rattle.constraint_cycles.proofs.order.Order.root.Given as goal

abbrev pub invariant-loop-pair : goal.invariant-loop-pair
invariant-loop-pair l = IsBegun (pairs_of (matrix_of l.conflicts)) l.marks l.fixed l.pair
