use Rattle.plan_change.proofs.Safety.{change_safety_law}
use Rattle.plan_change.proofs.laws.change_safety_law.Goals as goal

pub returns : goal.returns
returns c = change_safety_law
