use Rattle.least_greens.proofs.Multipliers.{beaten_law, not_beaten_law}
use Rattle.least_greens.proofs.laws.beaten_law.Goals as goal

pub returns-clause-met : goal.returns-clause-met
returns-clause-met c = beaten_law

pub returns-clause-own : goal.returns-clause-own
returns-clause-own c = not_beaten_law
