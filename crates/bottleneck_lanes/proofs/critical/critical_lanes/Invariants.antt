use Rattle.bottleneck_lanes.specs.SoFar.{IsTestedBelow}
use Rattle.bottleneck_lanes.proofs.critical.critical_lanes.Given as goal

abbrev pub invariant-loop-lane : goal.invariant-loop-lane
invariant-loop-lane l = IsTestedBelow l.junction l.multiple l.budget l.branches l.lane l.lanes l.plans l.shown
