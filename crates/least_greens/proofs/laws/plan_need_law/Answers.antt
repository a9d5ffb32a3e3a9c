use Rattle.least_greens.proofs.PlanNeeds.{plan_need_law}
use Rattle.least_greens.proofs.laws.plan_need_law.Goals as goal

pub returns : goal.returns
returns c = plan_need_law c.serving_law.ensures.lane
