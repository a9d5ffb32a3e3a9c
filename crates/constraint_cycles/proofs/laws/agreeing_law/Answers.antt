use Rattle.constraint_cycles.proofs.Agreement.{agreeing_law}
use Rattle.constraint_cycles.proofs.laws.agreeing_law.Goals as goal

pub returns : goal.returns
returns c = agreeing_law
