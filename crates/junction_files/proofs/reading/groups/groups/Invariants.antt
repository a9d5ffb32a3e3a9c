use Rattle.std.proofs.Common.{◌≡◌, map, take}
use Rattle.toml.specs.View.{view}
use Rattle.junction_files.specs.Meaning.{group_of}
use Rattle.junction_files.proofs.reading.groups.groups.Given as goal

abbrev pub invariant-loop-element : goal.invariant-loop-element
invariant-loop-element l = l.groups.items ≡ map group_of (map view (take l.element-index l.element-items))
