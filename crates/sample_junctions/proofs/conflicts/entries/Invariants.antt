use Rattle.std.proofs.Common.{◌≡◌, ◌++◌, drop}
use Rattle.sample_junctions.specs.Conflicts.{all_pairs, drawn_conflicts}
use Rattle.sample_junctions.proofs.conflicts.entries.Given as goal

abbrev pub invariant-loop-pair : goal.invariant-loop-pair
invariant-loop-pair l = l.entries.items ++ drawn_conflicts l.draws.state (drop l.pair-index (all_pairs l.groups)) ≡ drawn_conflicts l.fn.draws.state (all_pairs l.groups)
