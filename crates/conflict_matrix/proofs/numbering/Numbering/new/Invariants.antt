use Rattle.conflict_matrix.specs.Matrix.{unlinked}
use Rattle.conflict_matrix.proofs.Rows.{AreRows}
use Rattle.conflict_matrix.proofs.numbering.Numbering.new.Given as goal

abbrev pub invariant-loop-i : goal.invariant-loop-i
invariant-loop-i l = AreRows (unlinked l.groups l.cells) l.numbering l.i
