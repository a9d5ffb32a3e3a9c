use Rattle.std.proofs.Common.{◌≡◌, map, take}
use Rattle.serde_json.specs.View.{view}
use Rattle.plan_certificate.specs.Contents.{whole}
use Rattle.plan_certificate.proofs.writer.times_value.Given as goal

abbrev pub invariant-loop-second : goal.invariant-loop-second
invariant-loop-second l = map view l.items.items ≡ map whole (take l.second-index l.seconds)
