use Rattle.least_greens.proofs.Closing.{passed_plan_law}
use Rattle.least_greens.proofs.laws.passed_plan_law.Goals as goal

pub returns : goal.returns
returns c = passed_plan_law c.plan_need_law.ensures c.growth_law.ensures.needs c.exclusion_law.ensures
