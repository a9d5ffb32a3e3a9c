-- What is true of all starts that meet an order.
use Rattle.std.specs.Prelude.{ℕ, List, ◌≡◌, ◌<◌, slice_index}
use Rattle.conflict_matrix.specs.Matrix.{Matrix}
use Rattle.constraint_cycles.specs.Starts.{MeetsOrder}
use Rattle.constraint_cycles.specs.declared.mark.Mark.{Mark}

-- the two lists have the same entries for the groups of the table
abbrev pub AgreeOnGroups : Matrix → List ℕ → List ℕ → Type 0
AgreeOnGroups m xs ys = (g : ℕ) → g < m.groups → slice_index xs g ≡ slice_index ys g

-- an order reads no other entries of the needs and of the starts
abbrev pub AgreeingLaw : Type 0
AgreeingLaw = (m : Matrix) (marks : List Mark) (needs other_needs : List ℕ) (cycle : ℕ) (starts other_starts : List ℕ) →
    AgreeOnGroups m needs other_needs → AgreeOnGroups m starts other_starts →
    MeetsOrder m marks needs cycle starts → MeetsOrder m marks other_needs cycle other_starts
