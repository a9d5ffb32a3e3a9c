use Rattle.std.proofs.Common.{◌≡◌, drop}
use Rattle.std.specs.List.{list_all}
use Rattle.plan_certificate.specs.Version.{is_of_first}
use Rattle.plan_certificate.proofs.version.is_tree_of_first.Given as goal

abbrev pub invariant-loop-node : goal.invariant-loop-node
invariant-loop-node l = list_all is_of_first l.tree ≡ list_all is_of_first (drop l.node-index l.node-items)
