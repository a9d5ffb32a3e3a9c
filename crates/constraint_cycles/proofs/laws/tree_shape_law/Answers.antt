use Rattle.constraint_cycles.proofs.Subtrees.{tree_shape_law}
use Rattle.constraint_cycles.proofs.laws.tree_shape_law.Goals as goal

pub returns : goal.returns
returns c = tree_shape_law
