use Rattle.std.proofs.Common.{◌≡◌, ◌≤◌, ◌*◌, take, sum_by}
use Rattle.constraint_cycles.specs.Tree.{visited_count}
use Rattle.plan_certificate.proofs.certificate.Certificate.nodes.Given as goal

abbrev pub invariant-loop-tree : goal.invariant-loop-tree
invariant-loop-tree l = record {
  counted : l.count ≡ sum_by visited_count (take l.tree-index l.tree-items);
  few : l.count ≤ l.tree-index * 18446744073709551615;
}
