use Rattle.junction_files.proofs.Links.{link_value}
use Rattle.junction_files.proofs.reading.links.links.Goals as goal

pub link-requires : goal.link-requires
link-requires c = link_value _ c.requires _ _ _ c.elements-element-items.ensures c.loop-element-test.true c.element-item.is
