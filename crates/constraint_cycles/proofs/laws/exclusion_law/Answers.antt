use Rattle.constraint_cycles.proofs.Sums.{exclusion_law}
use Rattle.constraint_cycles.proofs.laws.exclusion_law.Goals as goal

pub returns : goal.returns
returns c = exclusion_law
