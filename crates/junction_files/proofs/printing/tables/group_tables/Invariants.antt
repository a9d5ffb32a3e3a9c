use Rattle.std.proofs.Common.{◌≡◌, map, take}
use Rattle.toml.specs.View.{view}
use Rattle.junction_files.specs.Printing.{tables, group_members}
use Rattle.junction_files.proofs.printing.tables.group_tables.Given as goal

abbrev pub invariant-loop-group : goal.invariant-loop-group
invariant-loop-group l = map view l.values.items ≡ tables (group_members l.version) (take l.group-index l.groups)
