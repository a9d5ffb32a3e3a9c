use Rattle.least_greens.proofs.Multipliers.{outdone_law}
use Rattle.least_greens.proofs.laws.outdone_law.Goals as goal

pub returns : goal.returns
returns c = outdone_law
