use Rattle.constraint_cycles.proofs.WalkGroups.{walk_groups_law}
use Rattle.constraint_cycles.proofs.laws.walk_law.Goals as goal

pub returns : goal.returns
returns c = walk_groups_law
