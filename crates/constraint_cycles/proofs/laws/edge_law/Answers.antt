use Rattle.constraint_cycles.proofs.EdgeTable.{asked_law, greatest_law, apart_law}
use Rattle.constraint_cycles.proofs.laws.edge_law.Goals as goal

pub returns-clause-asked : goal.returns-clause-asked
returns-clause-asked c = asked_law c.pair_laws.ensures.number

pub returns-clause-greatest : goal.returns-clause-greatest
returns-clause-greatest c = greatest_law c.pair_laws.ensures.pair

pub returns-clause-apart : goal.returns-clause-apart
returns-clause-apart c = apart_law c.pair_laws.ensures.pair c.pair_laws.ensures.number
