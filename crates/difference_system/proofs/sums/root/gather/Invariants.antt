use Rattle.std.proofs.Common.{◌≡◌, length}
use Rattle.difference_system.specs.System.{edges_of}
use Rattle.difference_system.specs.Spokes.{AreSpokesBelow}
use Rattle.difference_system.proofs.sums.root.gather.Given as goal

abbrev pub invariant-loop-group : goal.invariant-loop-group
invariant-loop-group l = record {
  spokes : AreSpokesBelow (edges_of l.system) l.group l.spokes;
  out_full : length l.spokes.out ≡ 16;
  home_full : length l.spokes.home ≡ 16;
}
