use Rattle.constraint_cycles.proofs.Decisions.{decided_law, other_edge_law}
use Rattle.constraint_cycles.proofs.laws.decided_law.Goals as goal

pub returns-clause-asked : goal.returns-clause-asked
returns-clause-asked c = decided_law

pub returns-clause-others : goal.returns-clause-others
returns-clause-others c = other_edge_law
