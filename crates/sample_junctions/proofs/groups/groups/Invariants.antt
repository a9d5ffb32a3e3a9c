use Rattle.std.proofs.Common.{◌≡◌}
use Rattle.sample_junctions.specs.Draws.{state_after}
use Rattle.sample_junctions.specs.Parts.{drawn_groups}
use Rattle.sample_junctions.proofs.groups.groups.Given as goal

abbrev pub invariant-loop-number : goal.invariant-loop-number
invariant-loop-number l = record {
  groups : l.groups.items ≡ drawn_groups l.fn.draws.state l.number;
  state : l.draws.state ≡ state_after l.fn.draws.state l.number;
}
