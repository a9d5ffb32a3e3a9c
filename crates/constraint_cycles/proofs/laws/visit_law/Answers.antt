use Rattle.constraint_cycles.specs.Tree.{DecidesOpen, IsSound}
use Rattle.constraint_cycles.proofs.Visits.{visit_law}
use Rattle.constraint_cycles.proofs.laws.visit_law.Goals as goal

pub returns-clause-decided : goal.returns-clause-decided
returns-clause-decided c = visit_law DecidesOpen

pub returns-clause-sound : goal.returns-clause-sound
returns-clause-sound c = λ m needs cycle. visit_law (IsSound m needs cycle)
