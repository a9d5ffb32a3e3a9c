use Rattle.junction_files.proofs.Conflicts.{conflict_value}
use Rattle.junction_files.proofs.reading.conflicts.entries.Goals as goal

pub entry-requires : goal.entry-requires
entry-requires c = conflict_value _ c.requires _ _ _ c.elements-element-items.ensures c.loop-element-test.true c.element-item.is
