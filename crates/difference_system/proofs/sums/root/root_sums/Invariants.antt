use Rattle.std.proofs.Common.{ℕ, ◌≡◌, ◌<◌, [], length, slice_index_or}
use Rattle.difference_system.specs.Sums.{cell_of}
use Rattle.difference_system.specs.Spokes.{IsRootSum}
use Rattle.difference_system.proofs.sums.root.root_sums.Given as goal

abbrev pub invariant-loop-from : goal.invariant-loop-from
invariant-loop-from l = record {
  before : (x y : ℕ) → x < l.from → y < l.groups → IsRootSum l.spokes x y (cell_of (slice_index_or l.rows x []) y);
  full : length l.rows ≡ 16;
}
