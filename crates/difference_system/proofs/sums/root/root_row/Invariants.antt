use Rattle.std.proofs.Common.{ℕ, ◌≡◌, ◌<◌, length}
use Rattle.difference_system.specs.Sums.{cell_of}
use Rattle.difference_system.specs.Spokes.{IsRootSum}
use Rattle.difference_system.proofs.sums.root.root_row.Given as goal

abbrev pub invariant-loop-to : goal.invariant-loop-to
invariant-loop-to l = record {
  before : (k : ℕ) → k < l.to → IsRootSum l.spokes l.from k (cell_of l.row k);
  full : length l.row ≡ 16;
}
