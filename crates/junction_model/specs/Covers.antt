-- How many nodes the search trees of a junction can have.
use Rattle.std.specs.Prelude.{ℕ, ◌+◌, ◌-◌, ◌*◌}
use Rattle.conflict_matrix.specs.Pairs.{tree_cover_of}
use Rattle.junction_model.specs.Junction.{JunctionView}

-- a whole tree for each cycle
abbrev pub cover_of : JunctionView → ℕ
cover_of junction = (junction.greatest_cycle - junction.least_cycle + 1) * tree_cover_of junction.conflicts
