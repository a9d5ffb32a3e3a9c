use Rattle.std.proofs.Common.{ℕ, ◌≡◌, ◌<◌, [], length, slice_index_or}
use Rattle.difference_system.specs.Sums.{cell_of, sum_of, IsWithEdges}
use Rattle.difference_system.proofs.sums.matrix.Sums.with_edges.Given as goal

abbrev pub invariant-loop-group : goal.invariant-loop-group
invariant-loop-group l = record {
  before : (x y : ℕ) → x < l.group → y < l.groups → IsWithEdges (sum_of l.self) l.edges x y (cell_of (slice_index_or l.rows x []) y);
  full : length l.rows ≡ 16;
}
