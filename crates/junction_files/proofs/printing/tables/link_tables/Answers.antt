use Rattle.std.proofs.Common.{rules}
use Rattle.std.proofs.lemmas.Option.{slice_get-get_or}
use Rattle.junction_files.specs.Printing.{link_members}
use Rattle.junction_files.proofs.Members.{tables_more}
use Rattle.junction_files.proofs.printing.tables.link_tables.Goals as goal

pub loop-link-preserved : goal.loop-link-preserved
loop-link-preserved c = tables_more (link_members c.args.groups.now) _ _ c.in_ok-table.table _ _ _ (search rules) c.in_ok-table.ensures
    (slice_get-get_or _ _ _ c.loop-link-test.true) c.loop-link.invariant
