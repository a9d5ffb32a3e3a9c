use Rattle.std.proofs.Common.{refl}
use Rattle.sample_junctions.proofs.States.{state_more}
use Rattle.sample_junctions.proofs.Parts.{groups_more}
use Rattle.sample_junctions.proofs.groups.groups.Goals as goal

pub loop-number-preserved : goal.loop-number-preserved
loop-number-preserved c = record {
  groups = rw (c.in_ok-push.ensures.items, groups_more, c.loop-number.invariant.groups, c.group.ensures, c.below-min_green.ensures.value, c.loop-number.invariant.state) refl;
  state = rw (c.below-min_green.ensures.state, c.loop-number.invariant.state, state_more) refl;
}
