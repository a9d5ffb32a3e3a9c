use Rattle.sig_base.specs.First.{NoneBelow}
use Rattle.conflict_matrix.specs.Entries.{LonelyAt}
use Rattle.conflict_matrix.proofs.pairing.first_lonely.Given as goal

abbrev pub invariant-loop-group : goal.invariant-loop-group
invariant-loop-group l = NoneBelow (LonelyAt l.entries) l.group
