use Rattle.difference_system.specs.Sums.{sum_of, AreRowStarts}
use Rattle.difference_system.proofs.sums.starts.row_starts.Given as goal

abbrev pub invariant-loop-group : goal.invariant-loop-group
invariant-loop-group l = AreRowStarts l.group (sum_of l.sums 0) l.starts
