use Rattle.std.proofs.Common.{take}
use Rattle.junction_model.proofs.Distinct.{AreDistinct}
use Rattle.junction_model.proofs.labelled.are_distinct.Given as goal

abbrev pub invariant-loop-j : goal.invariant-loop-j
invariant-loop-j g l = AreDistinct g.T.Labelled.label_of (take l.j l.items)
