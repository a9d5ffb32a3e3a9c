use Rattle.std.proofs.Common.{◌≤◌, length}
use Rattle.conflict_matrix.specs.Conflicts.{matrix_of}
use Rattle.cycle_orders.specs.DueItems.{AreOpenBelowLink}
use Rattle.cycle_orders.proofs.items.Items.push_links.Given as goal

abbrev pub invariant-loop-link : goal.invariant-loop-link
invariant-loop-link l = record {
  items : AreOpenBelowLink (matrix_of l.conflicts) l.link l.self;
  within : l.link ≤ length (matrix_of l.conflicts).links;
}
