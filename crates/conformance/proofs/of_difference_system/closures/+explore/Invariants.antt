use Rattle.std.proofs.Common.{◌≡◌}
use Rattle.conformance.proofs.of_difference_system.closures.+explore.Given as goal

abbrev pub decreases-explore : goal.decreases-explore
decreases-explore g l = l.depth

abbrev pub invariant-loop-way : goal.invariant-loop-way
invariant-loop-way g l = l.closure ≡ l.fn.closure
