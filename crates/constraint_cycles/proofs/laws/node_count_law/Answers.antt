use Rattle.constraint_cycles.proofs.NodeCounts.{node_count_law, visited_count_law, root_count_law}
use Rattle.constraint_cycles.proofs.laws.node_count_law.Goals as goal

pub returns-clause-below : goal.returns-clause-below
returns-clause-below c = node_count_law

pub returns-clause-visited : goal.returns-clause-visited
returns-clause-visited c = visited_count_law

pub returns-clause-root : goal.returns-clause-root
returns-clause-root c = root_count_law
