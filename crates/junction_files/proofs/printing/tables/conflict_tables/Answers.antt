use Rattle.std.proofs.Common.{rules, arith}
use Rattle.conflict_matrix.specs.Conflicts.{matrix_of}
use Rattle.junction_files.specs.Printing.{conflict_members}
use Rattle.conflict_matrix.proofs.PairNumbers.{pair_at}
use Rattle.junction_files.proofs.Members.{tables_more}
use Rattle.junction_files.proofs.printing.tables.conflict_tables.Goals as goal

pub conflict_table-requires-clause-a : goal.conflict_table-requires-clause-a
conflict_table-requires-clause-a c =
    let pair = pair_at (matrix_of c.args.conflicts.now) _ _ c.pair.ensures in omega (arith, pair.rising, pair.within, c.requires)

pub conflict_table-requires-clause-b : goal.conflict_table-requires-clause-b
conflict_table-requires-clause-b c = let pair = pair_at (matrix_of c.args.conflicts.now) _ _ c.pair.ensures in omega (arith, pair.within, c.requires)

pub loop-number-preserved : goal.loop-number-preserved
loop-number-preserved c =
    tables_more (conflict_members c.args.groups.now (matrix_of c.args.conflicts.now)) _ _ c.in_ok-table.table _ _ _ (search rules) c.in_ok-table.ensures
    c.pair.ensures c.loop-number.invariant
