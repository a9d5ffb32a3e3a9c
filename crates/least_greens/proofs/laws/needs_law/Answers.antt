use Rattle.least_greens.proofs.Closing.{needs_law}
use Rattle.least_greens.proofs.laws.needs_law.Goals as goal

pub returns : goal.returns
returns c = needs_law
