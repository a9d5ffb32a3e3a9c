use Rattle.std.proofs.Common.{take}
use Rattle.conflict_matrix.specs.Filling.{IsFilled}
use Rattle.conflict_matrix.proofs.filling.filled_cells.Given as goal

abbrev pub invariant-loop-entry : goal.invariant-loop-entry
invariant-loop-entry l = IsFilled (take l.entry-index l.entries) l.cells
