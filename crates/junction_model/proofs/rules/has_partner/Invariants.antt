use Rattle.sig_base.specs.First.{NoneBelow}
use Rattle.conflict_matrix.specs.Matrix.{AreConflicting}
use Rattle.conflict_matrix.specs.Conflicts.{matrix_of}
use Rattle.junction_model.proofs.rules.has_partner.Given as goal

abbrev pub invariant-loop-j : goal.invariant-loop-j
invariant-loop-j l = NoneBelow (AreConflicting (matrix_of l.conflicts) l.i) l.j
