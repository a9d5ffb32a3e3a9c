use Rattle.std.proofs.Common.{refl}
use Rattle.sample_junctions.proofs.States.{state_two_more}
use Rattle.sample_junctions.proofs.Parts.{lanes_more}
use Rattle.sample_junctions.proofs.lanes.lanes.Goals as goal

pub loop-number-preserved : goal.loop-number-preserved
loop-number-preserved c = record {
  lanes = rw (c.in_ok-push.ensures.items, lanes_more, c.loop-number.invariant.lanes, c.lane.ensures, c.below-saturation.ensures.value, c.below-arrival.ensures.value, c.below-arrival.ensures.state, c.loop-number.invariant.state) refl;
  state = rw (c.below-saturation.ensures.state, c.below-arrival.ensures.state, c.loop-number.invariant.state, state_two_more) refl;
}
