use Rattle.std.proofs.Common.{◌≡◌, map, take}
use Rattle.serde_json.specs.View.{view}
use Rattle.plan_model.specs.Plan.{plan_of}
use Rattle.plan_certificate.specs.Text.{plan_data}
use Rattle.bottleneck_lanes.proofs.writing.plans_value.Given as goal

abbrev pub invariant-loop-plan : goal.invariant-loop-plan
invariant-loop-plan l = map view l.items.items ≡ map plan_data (map plan_of (take l.plan-index l.plans))
