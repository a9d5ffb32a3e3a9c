use Rattle.std.proofs.Common.{◌≡◌, ◌+◌, ◌*◌, ◌≤◌, length}
use Rattle.difference_system.specs.Edge.{AreEdgesBelow}
use Rattle.difference_system.specs.System.{groups_of, edges_of}
use Rattle.difference_system.specs.EdgeList.{edges_in}
use Rattle.difference_system.proofs.edge_list.EdgeList.gather.Given as goal

abbrev pub invariant-loop-from : goal.invariant-loop-from
invariant-loop-from l = record {
  system : l.list.system ≡ l.fn.system;
  edges : AreEdgesBelow (groups_of l.fn.system) (edges_of l.fn.system) l.from (edges_in l.list);
  few : length (edges_in l.list) + 16 ≤ 16 * l.from;
}
