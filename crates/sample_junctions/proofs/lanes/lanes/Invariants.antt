use Rattle.std.proofs.Common.{◌≡◌, ◌*◌}
use Rattle.sample_junctions.specs.Draws.{state_after}
use Rattle.sample_junctions.specs.Parts.{drawn_lanes}
use Rattle.sample_junctions.proofs.lanes.lanes.Given as goal

abbrev pub invariant-loop-number : goal.invariant-loop-number
invariant-loop-number l = record {
  lanes : l.lanes.items ≡ drawn_lanes l.fn.draws.state l.number;
  state : l.draws.state ≡ state_after l.fn.draws.state (2 * l.number);
}
