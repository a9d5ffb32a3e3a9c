use Rattle.conflict_matrix.specs.Matrix.{unlinked}
use Rattle.conflict_matrix.proofs.Rows.{IsRow}
use Rattle.conflict_matrix.proofs.numbering.Numbering.push_row.Given as goal

abbrev pub invariant-loop-j : goal.invariant-loop-j
invariant-loop-j l = IsRow (unlinked l.groups l.cells) l.initial.self l.self l.i l.j
