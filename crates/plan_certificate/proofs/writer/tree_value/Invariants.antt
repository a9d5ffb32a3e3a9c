use Rattle.std.proofs.Common.{◌≡◌, map, take}
use Rattle.serde_json.specs.View.{view}
use Rattle.plan_certificate.specs.Contents.{node_data}
use Rattle.plan_certificate.proofs.writer.tree_value.Given as goal

abbrev pub invariant-loop-node : goal.invariant-loop-node
invariant-loop-node l = map view l.items.items ≡ map node_data (take l.node-index l.node-items)
