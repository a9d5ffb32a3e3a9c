use Rattle.std.specs.List.{IsDistinct}
use Rattle.difference_system.proofs.trail.Trail.of.Goals as goal

pub returns-clause-once : goal.returns-clause-once
unfolding IsDistinct
returns-clause-once c = (tt, tt)
