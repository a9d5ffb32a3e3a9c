use Rattle.std.proofs.Common.{◌≡◌, ◌≤◌, length, take}
use Rattle.cycle_orders.proofs.session.keep_visited.Given as goal

abbrev pub invariant-loop-tree : goal.invariant-loop-tree
invariant-loop-tree l = record {
  long : l.count ≤ length l.tree;
  same : take l.count l.tree ≡ take l.count l.fn.tree;
}

abbrev pub decreases-loop-tree : goal.decreases-loop-tree
decreases-loop-tree l = length l.tree
