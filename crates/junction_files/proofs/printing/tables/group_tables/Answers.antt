use Rattle.std.proofs.Common.{rules, refl}
use Rattle.std.proofs.lemmas.Option.{slice_get_read}
use Rattle.junction_files.specs.Printing.{group_members}
use Rattle.junction_files.proofs.Members.{tables_more}
use Rattle.junction_files.proofs.printing.tables.group_tables.Goals as goal

pub loop-group-preserved : goal.loop-group-preserved
loop-group-preserved c = tables_more (group_members c.args.version) _ _ c.in_ok-table.table _ _ _ (search rules) c.in_ok-table.ensures
    (slice_get_read _ _ _ _ refl c.loop-group-test.true c.group-item.is) c.loop-group.invariant
