use Rattle.constraint_cycles.proofs.FixedMarks.{open_item_law}
use Rattle.constraint_cycles.proofs.laws.order_law.Goals as goal

pub returns : goal.returns
returns c = open_item_law
