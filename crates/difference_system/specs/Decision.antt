-- What deciding one more item of an order comes to.
use Rattle.std.specs.Prelude.{ℕ, List, [], ◌∷◌, ℤ, Some, ◌≡◌}
use Rattle.conflict_matrix.specs.Matrix.{Matrix}
use Rattle.sig_base.specs.First.{NoneBelow, IsFirst}
use Rattle.constraint_cycles.specs.Closing.{Closes, IsUnserved}
use Rattle.constraint_cycles.specs.Edge.{edge_weight}
use Rattle.constraint_cycles.specs.declared.mark.Mark.{Mark}
use Rattle.difference_system.specs.Ends.{AreEndsAmong}
use Rattle.difference_system.specs.Solution.{IsClosingCircuit}
use Rattle.difference_system.specs.Sums.{asks_of, sum_of, AreSums, AreEdgesAmong, AreWithEdges, MakesNoCycle}
use Rattle.difference_system.specs.declared.sums.decision.Decision.{Decision}
use Rattle.difference_system.specs.declared.sums.decision.Decision.TheVariants.{Open, Closed}
use Rattle.difference_system.specs.declared.sums.matrix.Sums.{Sums}
use Rattle.difference_system.specs.declared.sums.matrix.TwoEdges.{TwoEdges}

-- the edges of the order each way between the two groups of the item
pub record AreDecisionEdges (m : Matrix) (marks : List Mark) (needs : List ℕ) (cycle item : ℕ) (e : TwoEdges) : Type 0 where
  pub ends : AreEndsAmong m item (e.from, e.to)
  pub among : AreEdgesAmong m.groups e
  pub forth : edge_weight m marks needs cycle e.from e.to ≡ Some e.forth
  pub back : edge_weight m marks needs cycle e.to e.from ≡ Some e.back

-- the edges make no positive cycle with the sums, and what has them more are the sums of the order
pub record LeavesOpen (m : Matrix) (marks : List Mark) (needs : List ℕ) (cycle : ℕ) (sum : ℕ → ℕ → ℤ) (e : TwoEdges) : Type 0 where
  pub among : AreEdgesAmong m.groups e
  pub no_cycle : MakesNoCycle sum e
  pub sums : (new : Sums) → AreWithEdges m.groups sum e (sum_of new) → AreSums m.groups (asks_of (edge_weight m marks needs cycle)) (sum_of new)

-- starts meet the order: each group has a green that is enough, and these are the sums of the edges
pub record IsMetWith (m : Matrix) (marks : List Mark) (needs : List ℕ) (cycle : ℕ) (s : Sums) : Type 0 where
  pub served : NoneBelow (IsUnserved m needs) m.groups
  pub sums : AreSums m.groups (asks_of (edge_weight m marks needs cycle)) (sum_of s)

-- the walk closes the order; where no green is enough for some group, it is that of the first such group
pub record IsClosedWith (m : Matrix) (marks : List Mark) (needs : List ℕ) (cycle : ℕ) (walk : List ℕ) : Type 0 where
  pub circuit : IsClosingCircuit (Closes m marks needs cycle) walk
  pub unserved : (g : ℕ) → IsFirst (IsUnserved m needs) m.groups g → walk ≡ g ∷ []

abbrev pub IsDecision : Matrix → List Mark → List ℕ → ℕ → (ℕ → ℕ → ℤ) → Decision → Type 0
IsDecision m marks needs cycle sum (Open e) = LeavesOpen m marks needs cycle sum e
IsDecision m marks needs cycle sum (Closed walk) = IsClosedWith m marks needs cycle walk
