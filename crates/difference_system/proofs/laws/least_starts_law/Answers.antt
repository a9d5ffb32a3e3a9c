use Rattle.constraint_cycles.specs.Starts.{MeetsOrder}
use Rattle.difference_system.proofs.LeastStarts.{one_least_law}
use Rattle.difference_system.proofs.laws.least_starts_law.Goals as goal

pub returns : goal.returns
returns c = λ m marks needs cycle. one_least_law (MeetsOrder m marks needs cycle)
