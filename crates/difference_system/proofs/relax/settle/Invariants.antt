use Rattle.difference_system.specs.System.{IsStateOf}
use Rattle.difference_system.specs.State.{shortfall}
use Rattle.difference_system.proofs.relax.settle.Given as goal

abbrev pub invariant-loop-walk : goal.invariant-loop-walk
invariant-loop-walk l = IsStateOf l.list.system l.state

abbrev pub decreases-loop-walk : goal.decreases-loop-walk
decreases-loop-walk l = shortfall l.state
