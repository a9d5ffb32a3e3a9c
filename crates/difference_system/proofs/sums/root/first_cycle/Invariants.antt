use Rattle.difference_system.specs.Spokes.{HasNoCycle}
use Rattle.difference_system.proofs.sums.root.first_cycle.Given as goal

abbrev pub invariant-loop-group : goal.invariant-loop-group
invariant-loop-group l = HasNoCycle l.group l.spokes
