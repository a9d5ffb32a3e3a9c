use Rattle.difference_system.specs.System.{groups_of, edges_of}
use Rattle.difference_system.specs.State.{IsStateBelow}
use Rattle.difference_system.proofs.begin.begin.Given as goal

abbrev pub invariant-loop-group : goal.invariant-loop-group
invariant-loop-group l = IsStateBelow (edges_of l.system) (groups_of l.system) l.group l.state
