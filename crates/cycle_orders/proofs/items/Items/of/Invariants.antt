use Rattle.std.proofs.Common.{◌≤◌}
use Rattle.conflict_matrix.specs.Conflicts.{matrix_of}
use Rattle.cycle_orders.specs.DueItems.{AreFreePairsBelow}
use Rattle.cycle_orders.proofs.items.Items.of.Given as goal

abbrev pub invariant-loop-group : goal.invariant-loop-group
invariant-loop-group l = record {
  pairs : AreFreePairsBelow (matrix_of l.conflicts) (1, l.group) l.items;
  some : 1 ≤ l.group;
  within : l.group ≤ (matrix_of l.conflicts).groups;
}
