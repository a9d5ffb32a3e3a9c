use Rattle.std.proofs.Common.{refl}
use Rattle.difference_system.proofs.level.Level.root.Goals as goal

pub solved_walk-walk-requires-clause-closed : goal.solved_walk-walk-requires-clause-closed
solved_walk-walk-requires-clause-closed c = c.in-None.ensures.closed refl
