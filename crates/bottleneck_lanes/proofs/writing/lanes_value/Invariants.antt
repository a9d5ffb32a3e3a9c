use Rattle.std.proofs.Common.{◌≡◌, map}
use Rattle.serde_json.specs.View.{view}
use Rattle.plan_certificate.specs.Contents.{whole}
use Rattle.bottleneck_lanes.specs.Critical.{members_below}
use Rattle.bottleneck_lanes.proofs.writing.lanes_value.Given as goal

abbrev pub invariant-loop-lane : goal.invariant-loop-lane
invariant-loop-lane l = map view l.items.items ≡ map whole (members_below l.lanes l.lane)
