use Rattle.std.proofs.Common.{List, map, ◌≡◌, ◌∙◌}
use Rattle.toml.specs.Data.{Data}
use Rattle.sig_base.specs.declared.group_times.GroupTimes.{GroupTimes}
use Rattle.junction_model.specs.declared.group.Group.{Group}
use Rattle.junction_files.specs.Meaning.{times_of, group_of}
use Rattle.junction_files.proofs.Conflicts.{times_again, are_entries, no_fault}
use Rattle.junction_files.proofs.IsJunction.{are_conflicts}
use Rattle.junction_files.proofs.reading.conflicts.unlinked.Goals as goal

same_times : (times : List GroupTimes) (groups : List Group) (ds : List Data) → times ≡ map (λ (group : Group). group.times) groups → groups ≡ map group_of ds →
    times ≡ map times_of ds
same_times times groups ds e f = rw (e, f) (times_again ds)

pub new-requires : goal.new-requires
new-requires c =
    let times = same_times _ _ _ (c.deref.ensures.value ∙ c.in_ok-times.ensures) c.requires.groups in
    rw (times, c.deref-2.ensures.value, c.in_ok-entries.ensures) (are_entries _ c.requires.faultless)

pub unreachable-requires : goal.unreachable-requires
unreachable-requires c =
    let times = same_times _ _ _ (c.deref.ensures.value ∙ c.in_ok-times.ensures) c.requires.groups in
    no_fault _ c.requires.faultless _ (rw (times, c.deref-2.ensures.value, c.in_ok-entries.ensures) at c.in-Err.ensures.fault)

pub returns-clause-rules : goal.returns-clause-rules
returns-clause-rules c =
    let times = same_times _ _ _ (c.deref.ensures.value ∙ c.in_ok-times.ensures) c.requires.groups in
    are_conflicts c.args.groups.now c.deref.result.now c.deref-2.result.now _ (c.deref.ensures.value ∙ c.in_ok-times.ensures)
    (rw (times, c.deref-2.ensures.value, c.in_ok-entries.ensures) (are_entries _ c.requires.faultless))
    c.in-Ok.ensures.faultless c.in-Ok.ensures.table c.in-Ok.conflicts.table
