use Rattle.least_greens.proofs.Closing.{closed_cycle_law}
use Rattle.least_greens.proofs.laws.closed_cycle_law.Goals as goal

pub returns : goal.returns
returns c = closed_cycle_law c.rotation_law.ensures.any c.rotation_law.ensures.first c.plan_need_law.ensures c.closed_tree_law.ensures
