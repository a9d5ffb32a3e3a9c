use Rattle.std.proofs.Common.{◌∙◌}
use Rattle.sample_junctions.proofs.Table.{are_entries, times_size, no_fault, are_conflicts}
use Rattle.sample_junctions.proofs.conflicts.conflicts.Goals as goal

pub new-requires : goal.new-requires
new-requires c =
    let times = c.deref.ensures.value ∙ c.in_ok-times.ensures in
    rw (times, c.deref-2.ensures.value, c.in_ok-entries.ensures)
    (are_entries c.args.draws.now.state c.args.count c.requires.several c.requires.few _
    (times_size c.args.draws.now.state c.args.count c.requires.several c.requires.few c.args.groups.now c.requires.groups))

pub unreachable-requires : goal.unreachable-requires
unreachable-requires c =
    let times = c.deref.ensures.value ∙ c.in_ok-times.ensures in
    no_fault c.args.draws.now.state c.args.count c.requires.several c.requires.few c.args.groups.now c.requires.groups _
    (rw (times, c.deref-2.ensures.value, c.in_ok-entries.ensures) at c.in-Err.ensures.fault)

pub returns-clause-rules : goal.returns-clause-rules
returns-clause-rules c =
    let size = times_size c.args.draws.now.state c.args.count c.requires.several c.requires.few c.args.groups.now c.requires.groups in
    let times = c.deref.ensures.value ∙ c.in_ok-times.ensures in
    are_conflicts c.args.draws.now.state c.args.count c.requires.several c.requires.few c.args.groups.now c.requires.groups _ c.in-Ok.conflicts.table
    (rw (times, size, c.deref-2.ensures.value, c.in_ok-entries.ensures) at c.in-Ok.ensures.table)
