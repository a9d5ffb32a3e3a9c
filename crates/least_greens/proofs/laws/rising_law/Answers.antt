use Rattle.least_greens.proofs.Closing.{rising_walk_law, rising_cycle_law}
use Rattle.least_greens.proofs.laws.rising_law.Goals as goal

pub returns-clause-walk : goal.returns-clause-walk
returns-clause-walk c = rising_walk_law c.growth_law.ensures.needs

pub returns-clause-cycle : goal.returns-clause-cycle
returns-clause-cycle c = rising_cycle_law c.tree_law.ensures.needs
