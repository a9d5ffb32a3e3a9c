use Rattle.std.proofs.Common.{refl}
use Rattle.bottleneck_lanes.proofs.ArrivingLanes.{all_left, stays, goes, no_both}
use Rattle.bottleneck_lanes.proofs.arrivals.arriving_lanes.Goals as goal
use Rattle.bottleneck_lanes.proofs.arrivals.arriving_lanes.Goals.{then-not-has_arrival, else-not-has_arrival}

pub loop-lane-init : goal.loop-lane-init
loop-lane-init c = all_left c.args.junction.now c.rules.ensures _ refl

pub loop-lane-preserved : goal.loop-lane-preserved
loop-lane-preserved c = elim c.if-not-has_arrival.branch [
  | then-not-has_arrival w ↦ rw (w.lanes-is, w.without-lanes.ensures.value) (goes c.args.junction.now c.rules.ensures c.loop-lane.lane c.loop-lane-test.true c.loop-lane.lanes c.loop-lane.invariant
      (λ has. no_both c.has_arrival.result w.if-not-has_arrival.true (c.has_arrival.ensures.1 has)))
  | else-not-has_arrival w ↦ rw w.lanes-is (stays c.args.junction.now c.rules.ensures c.loop-lane.lane c.loop-lane-test.true c.loop-lane.lanes c.loop-lane.invariant
      (c.has_arrival.ensures.0 w.if-not-has_arrival.false))
]
