use Rattle.std.proofs.Common.{◌≡◌, map, take}
use Rattle.toml.specs.View.{view}
use Rattle.junction_files.specs.Meaning.{lane_of}
use Rattle.junction_files.proofs.reading.lanes.lanes.Given as goal

abbrev pub invariant-loop-element : goal.invariant-loop-element
invariant-loop-element l = l.lanes.items ≡ map (lane_of (view l.document)) (map view (take l.element-index l.element-items))
