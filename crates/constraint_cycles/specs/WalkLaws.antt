-- What is true of all walks that close edges.
use Rattle.std.specs.Prelude.{ℕ, List, Some, ◌≡◌, ◌<◌, ◌≤◌, All, slice_get, slice_index, slice_set}
use Rattle.conflict_matrix.specs.Matrix.{Matrix}
use Rattle.constraint_cycles.specs.Marks.{Refines}
use Rattle.constraint_cycles.specs.Closing.{Closes}
use Rattle.constraint_cycles.specs.Starts.{MeetsOrder}
use Rattle.constraint_cycles.specs.declared.mark.Mark.{Mark}
use Rattle.constraint_cycles.specs.declared.mark.Mark.TheVariants.{Open}

-- starts that meet an order exclude every walk that closes it
abbrev pub ExclusionLaw : Type 0
ExclusionLaw = (m : Matrix) (marks : List Mark) (needs : List ℕ) (cycle : ℕ) (starts walk : List ℕ) →
    MeetsOrder m marks needs cycle starts → ¬ Closes m marks needs cycle walk

-- a walk that closes an order passes only groups of the table
abbrev pub WalkGroupsLaw : Type 0
WalkGroupsLaw = (m : Matrix) (marks : List Mark) (needs : List ℕ) (cycle : ℕ) (walk : List ℕ) →
    Closes m marks needs cycle walk → All (λ g. g < m.groups) walk

-- no group of the table needs less
abbrev pub NeedNoLess : Matrix → List ℕ → List ℕ → Type 0
NeedNoLess m needs more = (g : ℕ) → g < m.groups → slice_index needs g ≤ slice_index more g

-- a walk that closes an order closes it for greater needs
abbrev pub GreaterNeedsLaw : Type 0
GreaterNeedsLaw = (m : Matrix) (marks : List Mark) (needs more : List ℕ) (cycle : ℕ) (walk : List ℕ) → NeedNoLess m needs more →
    Closes m marks needs cycle walk → Closes m marks more cycle walk

-- it closes every order that refines this one, so decides more items
abbrev pub RefinementLaw : Type 0
RefinementLaw = (m : Matrix) (marks finer : List Mark) (needs : List ℕ) (cycle : ℕ) (walk : List ℕ) → Refines marks finer →
    Closes m marks needs cycle walk → Closes m finer needs cycle walk

-- so it closes the order that decides one more item
abbrev pub DecisionLaw : Type 0
DecisionLaw = (m : Matrix) (marks : List Mark) (needs : List ℕ) (cycle item : ℕ) (mark : Mark) (walk : List ℕ) → slice_get marks item ≡ Some Open →
    Closes m marks needs cycle walk → Closes m (slice_set marks item mark) needs cycle walk
