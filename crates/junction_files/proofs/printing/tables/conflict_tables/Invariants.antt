use Rattle.std.proofs.Common.{◌≡◌, map, take}
use Rattle.toml.specs.View.{view}
use Rattle.conflict_matrix.specs.Conflicts.{matrix_of, pairs_of}
use Rattle.junction_files.specs.Printing.{tables, conflict_members}
use Rattle.junction_files.proofs.printing.tables.conflict_tables.Given as goal

abbrev pub invariant-loop-number : goal.invariant-loop-number
invariant-loop-number l =
    map view l.values.items ≡ tables (conflict_members l.groups (matrix_of l.conflicts)) (take l.number (pairs_of (matrix_of l.conflicts)))
