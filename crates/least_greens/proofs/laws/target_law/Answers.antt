use Rattle.least_greens.proofs.TargetOrder.{lesser_target_law, transitive_law}
use Rattle.least_greens.proofs.laws.target_law.Goals as goal

pub returns-clause-transitive : goal.returns-clause-transitive
returns-clause-transitive c = transitive_law

pub returns-clause-lesser : goal.returns-clause-lesser
returns-clause-lesser c = lesser_target_law
