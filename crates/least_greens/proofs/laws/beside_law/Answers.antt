use Rattle.least_greens.proofs.TargetBeside.{shorter_beside_law, longer_beside_law, rising_beside_law}
use Rattle.least_greens.proofs.laws.beside_law.Goals as goal

pub returns-clause-shorter : goal.returns-clause-shorter
returns-clause-shorter c = shorter_beside_law

pub returns-clause-longer : goal.returns-clause-longer
returns-clause-longer c = longer_beside_law

pub returns-clause-rising : goal.returns-clause-rising
returns-clause-rising c = rising_beside_law
