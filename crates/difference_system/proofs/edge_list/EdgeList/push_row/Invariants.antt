use Rattle.std.proofs.Common.{◌≡◌, ◌+◌, ◌*◌, ◌≤◌, length}
use Rattle.difference_system.specs.Edge.{AreEdgesInRow}
use Rattle.difference_system.specs.System.{groups_of, edges_of}
use Rattle.difference_system.specs.EdgeList.{edges_in}
use Rattle.difference_system.proofs.edge_list.EdgeList.push_row.Given as goal

abbrev pub invariant-loop-to : goal.invariant-loop-to
invariant-loop-to l = record {
  system : l.self.system ≡ l.fn.self.system;
  edges : AreEdgesInRow (groups_of l.fn.self.system) (edges_of l.fn.self.system) l.from l.to (edges_in l.self);
  few : length (edges_in l.self) + 16 ≤ 16 * l.from + l.to;
}
