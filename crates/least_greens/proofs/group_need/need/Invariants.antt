use Rattle.least_greens.specs.LeastFrom.{IsNeedBelow}
use Rattle.least_greens.proofs.group_need.need.Given as goal

abbrev pub invariant-loop-lane : goal.invariant-loop-lane
invariant-loop-lane l = IsNeedBelow l.junction l.lanes l.target l.cycle l.group l.lane l.need
