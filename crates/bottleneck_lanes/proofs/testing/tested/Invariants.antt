use Rattle.bottleneck_lanes.proofs.Tests.{IsTesting}
use Rattle.bottleneck_lanes.proofs.testing.tested.Given as goal

abbrev pub invariant-loop-cycle : goal.invariant-loop-cycle
invariant-loop-cycle g l = IsTesting l.junction l.multiple l.fn.lanes l.budget l.left l.cycle l.forest
