use Rattle.std.proofs.Common.{◌≤◌}
use Rattle.conflict_matrix.specs.Conflicts.{matrix_of}
use Rattle.cycle_orders.specs.DueItems.{AreFreePairsBelow}
use Rattle.cycle_orders.proofs.items.Items.push_pairs.Given as goal

abbrev pub invariant-loop-lower : goal.invariant-loop-lower
invariant-loop-lower l = record {
  pairs : AreFreePairsBelow (matrix_of l.conflicts) (l.lower, l.group) l.self;
  some : 1 ≤ l.lower;
  within : l.lower ≤ l.group;
}
