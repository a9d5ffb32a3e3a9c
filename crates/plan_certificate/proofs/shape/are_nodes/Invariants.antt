use Rattle.std.proofs.Common.{◌≡◌, map, drop}
use Rattle.std.specs.List.{list_all}
use Rattle.serde_json.specs.View.{view}
use Rattle.plan_certificate.specs.Shape.{is_node}
use Rattle.plan_certificate.proofs.shape.are_nodes.Given as goal

abbrev pub invariant-loop-value : goal.invariant-loop-value
invariant-loop-value l = list_all is_node (map view l.values) ≡ list_all is_node (map view (drop l.value-index l.values))
