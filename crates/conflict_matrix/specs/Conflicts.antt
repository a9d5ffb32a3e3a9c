-- What contracts see of conflicts: their table, and its conflicting pairs by number.
pub use Rattle.conflict_matrix.specs.Pairs.{later_partners, pairs_of, pair_number_of, lower_first, IsPairNumber}
use Rattle.std.specs.Prelude.{take}
use Rattle.conflict_matrix.specs.Matrix.{Matrix}
use Rattle.conflict_matrix.specs.declared.conflicts.Conflicts.{Conflicts}

abbrev pub matrix_of : Conflicts → Matrix
matrix_of c = record { groups = c.groups; cells = c.cells; links = take c.link_count c.links }
