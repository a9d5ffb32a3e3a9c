use Rattle.std.proofs.Common.{ℕ, ◌≡◌, ◌<◌, ◌+ℤ◌, length}
use Rattle.difference_system.specs.Sums.{cell_of, IsGreatest}
use Rattle.difference_system.proofs.sums.matrix.greatest_row.Given as goal

abbrev pub invariant-loop-to : goal.invariant-loop-to
invariant-loop-to l = record {
  before : (k : ℕ) → k < l.to → k < l.groups → IsGreatest (cell_of l.row k) (l.by_forth +ℤ cell_of l.forth k) (l.by_back +ℤ cell_of l.back k) (cell_of l.joined k);
  full : length l.joined ≡ 16;
}
