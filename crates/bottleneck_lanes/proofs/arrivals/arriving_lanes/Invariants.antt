use Rattle.bottleneck_lanes.proofs.ArrivingLanes.{AreLeft}
use Rattle.bottleneck_lanes.proofs.arrivals.arriving_lanes.Given as goal

abbrev pub invariant-loop-lane : goal.invariant-loop-lane
invariant-loop-lane l = AreLeft l.junction l.lane l.lanes
