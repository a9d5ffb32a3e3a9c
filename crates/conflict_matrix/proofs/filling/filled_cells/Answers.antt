use Rattle.std.proofs.Common.{arith, ◌+◌, ◌*◌}
use Rattle.std.proofs.lemmas.List.{get_or-replicate}
use Rattle.conflict_matrix.proofs.filling.filled_cells.Goals as goal

pub loop-entry-init : goal.loop-entry-init
loop-entry-init c i j p q = get_or-replicate 256 (16 * i + j) 255 0 (omega arith)
