use Rattle.plan_model.proofs.Optimal.{optimal_law}
use Rattle.plan_model.proofs.laws.optimal_law.Goals as goal

pub returns : goal.returns
returns c = optimal_law
