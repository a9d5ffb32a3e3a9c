use Rattle.std.proofs.Common.{◌≡◌, ◌≤◌, take, count_by}
use Rattle.constraint_cycles.specs.Tree.{is_visited}
use Rattle.plan_certificate.proofs.certificate.visited.Given as goal

abbrev pub invariant-loop-node : goal.invariant-loop-node
invariant-loop-node l = record {
  counted : l.count ≡ count_by is_visited (take l.node-index l.node-items);
  few : l.count ≤ l.node-index;
}
