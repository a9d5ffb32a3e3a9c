use Rattle.junction_files.proofs.Links.{are_linkable, no_link_fault}
use Rattle.junction_files.proofs.reading.links.linked.Goals as goal

pub link-requires : goal.link-requires
link-requires c = rw (c.requires.groups, c.deref.ensures.value, c.in_ok-links.ensures) (are_linkable _ c.requires.faultless)

pub unreachable-requires : goal.unreachable-requires
unreachable-requires c = no_link_fault _ c.requires.faultless _ (rw (c.deref.ensures.value, c.in_ok-links.ensures) at c.in-Err.ensures.fault)
