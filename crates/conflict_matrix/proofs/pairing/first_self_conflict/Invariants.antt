use Rattle.sig_base.specs.First.{NoneBelow}
use Rattle.conflict_matrix.specs.Entries.{SelfConflictAt}
use Rattle.conflict_matrix.proofs.pairing.first_self_conflict.Given as goal

abbrev pub invariant-loop-k : goal.invariant-loop-k
invariant-loop-k l = NoneBelow (SelfConflictAt l.entries) l.k
