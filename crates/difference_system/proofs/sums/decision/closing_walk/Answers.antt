use Rattle.difference_system.proofs.sums.decision.closing_walk.Goals as goal

pub unreachable-requires : goal.unreachable-requires
unreachable-requires c = c.requires.closed c.in-Starts.field-0 c.in-Starts.ensures.least.solution.meets
