use Rattle.std.proofs.Common.{◌≡◌, ◌+◌, ◌-◌, ◌≤◌, length, drop}
use Rattle.cycle_orders.specs.Trimming.{behind_trees}
use Rattle.cycle_orders.proofs.trimming.behind_tree.Given as goal

abbrev pub invariant-loop-count : goal.invariant-loop-count
invariant-loop-count l = record {
  rest : behind_trees l.count (drop l.next l.nodes) ≡ behind_trees 1 (drop l.begin l.nodes);
  within : l.next ≤ length l.nodes;
  few : l.count ≤ l.next + 1;
}

abbrev pub decreases-loop-count : goal.decreases-loop-count
decreases-loop-count l = length l.nodes - l.next
