use Rattle.std.proofs.Common.{◌≡◌, map, take}
use Rattle.toml.specs.View.{view}
use Rattle.junction_files.specs.Printing.{tables, link_members}
use Rattle.junction_files.proofs.printing.tables.link_tables.Given as goal

abbrev pub invariant-loop-link : goal.invariant-loop-link
invariant-loop-link l = map view l.values.items ≡ tables (link_members l.groups) (take l.link-index l.links)
