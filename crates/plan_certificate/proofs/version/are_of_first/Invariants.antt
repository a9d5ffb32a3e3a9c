use Rattle.std.proofs.Common.{◌≡◌, drop}
use Rattle.plan_certificate.specs.Version.{are_of_first}
use Rattle.plan_certificate.proofs.version.are_of_first.Given as goal

abbrev pub invariant-loop-tree : goal.invariant-loop-tree
invariant-loop-tree l = are_of_first l.trees ≡ are_of_first (drop l.tree-index l.tree-items)
