use Rattle.junction_files.proofs.Groups.{group_value}
use Rattle.junction_files.proofs.reading.groups.groups.Goals as goal

pub group-requires : goal.group-requires
group-requires c = group_value _ c.requires _ _ _ c.elements-element-items.ensures c.loop-element-test.true c.element-item.is
