use Rattle.std.proofs.Common.{◌≡◌}
use Rattle.std.specs.List.{range_with_len, flat_map}
use Rattle.sample_junctions.specs.Conflicts.{pairs_above}
use Rattle.sample_junctions.proofs.pairs.all_pairs.Given as goal

abbrev pub invariant-loop-i : goal.invariant-loop-i
invariant-loop-i l = l.pairs.items ≡ flat_map (pairs_above l.count) (range_with_len 0 l.i)
