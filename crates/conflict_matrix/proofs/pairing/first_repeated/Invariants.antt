use Rattle.sig_base.specs.First.{NoneBelow}
use Rattle.conflict_matrix.specs.Entries.{RepeatedAt}
use Rattle.conflict_matrix.proofs.pairing.first_repeated.Given as goal

abbrev pub invariant-loop-k : goal.invariant-loop-k
invariant-loop-k l = NoneBelow (RepeatedAt l.entries) l.k
