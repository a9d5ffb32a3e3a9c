use Rattle.std.proofs.Common.{◌≡◌, map, take}
use Rattle.toml.specs.View.{view}
use Rattle.junction_files.specs.Meaning.{link_of}
use Rattle.junction_files.proofs.reading.links.links.Given as goal

abbrev pub invariant-loop-element : goal.invariant-loop-element
invariant-loop-element l = l.links.items ≡ map (link_of (view l.document)) (map view (take l.element-index l.element-items))
