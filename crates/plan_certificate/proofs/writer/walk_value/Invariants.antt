use Rattle.std.proofs.Common.{◌≡◌, map, take}
use Rattle.serde_json.specs.View.{view}
use Rattle.plan_certificate.specs.Contents.{whole}
use Rattle.plan_certificate.proofs.writer.walk_value.Given as goal

abbrev pub invariant-loop-group : goal.invariant-loop-group
invariant-loop-group l = map view l.items.items ≡ map whole (take l.group-index l.group-items)
