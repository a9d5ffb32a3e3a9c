use Rattle.std.proofs.Common.{◌≡◌, map, take}
use Rattle.serde_json.specs.View.{view}
use Rattle.plan_certificate.specs.Contents.{tree_data}
use Rattle.plan_certificate.proofs.writer.forest_value.Given as goal

abbrev pub invariant-loop-tree : goal.invariant-loop-tree
invariant-loop-tree l = map view l.items.items ≡ map tree_data (take l.tree-index l.tree-items)
