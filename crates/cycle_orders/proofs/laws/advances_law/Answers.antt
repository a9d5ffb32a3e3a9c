use Rattle.cycle_orders.proofs.Advances.{advances_law}
use Rattle.cycle_orders.proofs.laws.advances_law.Goals as goal

pub returns : goal.returns
returns c = advances_law
