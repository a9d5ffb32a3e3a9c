use Rattle.std.proofs.Common.{◌≡◌, map, take}
use Rattle.toml.specs.View.{view}
use Rattle.junction_files.specs.Printing.{tables, lane_members}
use Rattle.junction_files.proofs.printing.tables.lane_tables.Given as goal

abbrev pub invariant-loop-lane : goal.invariant-loop-lane
invariant-loop-lane l = map view l.values.items ≡ tables (lane_members l.groups) (take l.lane-index l.lanes)
