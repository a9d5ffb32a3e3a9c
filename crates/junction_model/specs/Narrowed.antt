-- A junction with one of its cycles alone.
use Rattle.std.specs.Prelude.{ℕ}
use Rattle.junction_model.specs.Junction.{JunctionView, junction_from}

-- the junction with this cycle alone
abbrev pub narrowed : JunctionView → ℕ → JunctionView
narrowed junction cycle = junction_from junction.title cycle cycle junction.groups junction.lanes junction.conflicts
