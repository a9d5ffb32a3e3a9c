use Rattle.bottleneck_lanes.proofs.TrimmedTrees.{AreTrimmedBelow}
use Rattle.bottleneck_lanes.proofs.trimming.trim_each.Given as goal

abbrev pub invariant-loop-number : goal.invariant-loop-number
invariant-loop-number g l = AreTrimmedBelow l.junction l.multiple l.fn.lanes l.given l.number l.trimmed
