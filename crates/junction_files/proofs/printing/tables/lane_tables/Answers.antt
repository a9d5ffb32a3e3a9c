use Rattle.std.proofs.Common.{rules, refl}
use Rattle.std.proofs.lemmas.Option.{slice_get_read}
use Rattle.junction_files.specs.Printing.{lane_members}
use Rattle.junction_files.proofs.Members.{tables_more}
use Rattle.junction_files.proofs.printing.tables.lane_tables.Goals as goal

pub loop-lane-preserved : goal.loop-lane-preserved
loop-lane-preserved c = tables_more (lane_members c.args.groups.now) _ _ c.in_ok-table.table _ _ _ (search rules) c.in_ok-table.ensures
    (slice_get_read _ _ _ _ refl c.loop-lane-test.true c.lane-item.is) c.loop-lane.invariant
