-- What the test of a lane answers.
use Rattle.std.specs.Prelude.{ℕ, ◌<◌}
use Rattle.sig_base.specs.declared.lane_set.LaneSet.{LaneSet}
use Rattle.sig_base.specs.declared.ratio.Ratio.{Ratio}
use Rattle.junction_model.specs.Covers.{cover_of}
use Rattle.junction_model.specs.Junction.{JunctionView}
use Rattle.plan_model.specs.Plan.{plan_of}
use Rattle.bottleneck_lanes.specs.Tested.{IsBeatenTest, IsEndedTest, IsStoppedForest}
use Rattle.bottleneck_lanes.specs.declared.testing.Test.{Test}
use Rattle.bottleneck_lanes.specs.declared.testing.Test.TheVariants.{Beaten, Unbeaten, Stopped}

abbrev pub IsTestAnswer : JunctionView → Ratio → ℕ → LaneSet → Test → Type 0
IsTestAnswer junction multiple budget lanes (Beaten plan) = IsBeatenTest junction multiple budget lanes (plan_of plan)
IsTestAnswer junction multiple budget lanes (Unbeaten forest) = IsEndedTest junction multiple budget lanes forest
IsTestAnswer junction multiple budget lanes (Stopped forest) = IsStoppedForest junction multiple budget lanes forest × (budget < cover_of junction)
