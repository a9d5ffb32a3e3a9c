use Rattle.sig_base.specs.First.{NoneBelow}
use Rattle.conflict_matrix.specs.Entries.{ShortAt}
use Rattle.conflict_matrix.proofs.shortness.first_short.Given as goal

abbrev pub invariant-loop-k : goal.invariant-loop-k
invariant-loop-k l = NoneBelow (ShortAt l.groups l.entries) l.k
