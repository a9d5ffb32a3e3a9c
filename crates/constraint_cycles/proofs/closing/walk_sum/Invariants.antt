use Rattle.std.proofs.Common.{◌<◌}
use Rattle.conflict_matrix.specs.Conflicts.{matrix_of}
use Rattle.constraint_cycles.specs.Order.{marks_of}
use Rattle.constraint_cycles.specs.Edge.{edge_weight}
use Rattle.constraint_cycles.proofs.Sums.{IsSummed}
use Rattle.constraint_cycles.proofs.closing.walk_sum.Given as goal

abbrev pub invariant-loop-place : goal.invariant-loop-place
invariant-loop-place l = record {
  within : l.from < (matrix_of l.conflicts).groups;
  summed : IsSummed (edge_weight (matrix_of l.conflicts) (marks_of l.order) l.needs l.cycle) l.groups l.first l.from l.sum l.place;
}
