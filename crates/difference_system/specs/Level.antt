-- The levels of a closure: one for the root order, and one for each decision.
use Rattle.std.specs.Prelude.{ℕ, List, [], ◌∷◌, Some, ◌≡◌, ◌≢◌, ◌≤◌, MatchOption, All, map, reverse, slice_get, slice_set}
use Rattle.sig_base.specs.Times.{IsCycle}
use Rattle.conflict_matrix.specs.Matrix.{Matrix}
use Rattle.constraint_cycles.specs.Marks.{IsOrderFor, root_marks}
use Rattle.constraint_cycles.specs.Order.{order_of, marks_of}
use Rattle.constraint_cycles.specs.Edge.{AreNeeds}
use Rattle.constraint_cycles.specs.declared.mark.Mark.{Mark}
use Rattle.constraint_cycles.specs.declared.mark.Mark.TheVariants.{Open}
use Rattle.difference_system.specs.Decision.{IsMetWith, IsClosedWith}
use Rattle.difference_system.specs.declared.level.Level.{Level}

-- the marks of an order, and the item that was decided last
abbrev pub Decision : Type 0
Decision = List Mark × ℕ

abbrev pub decision_of : Level → Decision
decision_of l = (marks_of l.order, l.item)

-- the last decision first
abbrev pub decisions_of : List Level → List Decision
decisions_of levels = reverse (map decision_of levels)

-- the order of a decision
abbrev pub marks_at : Decision → List Mark
marks_at d = d.0

-- the second order decides one item that the first leaves open
pub record IsNext (below decision : Decision) : Type 0 where
  pub mark : Mark
  pub was_open : slice_get below.0 decision.1 ≡ Some Open
  pub decides : mark ≢ Open
  pub is : decision.0 ≡ slice_set below.0 decision.1 mark

-- the root order stands last, and each other order decides one item that the one behind it leaves open
abbrev pub AreDecisions : Matrix → List Decision → Type 0
AreDecisions m [] = ⊥
AreDecisions m (decision ∷ []) = decision ≡ (root_marks m, 0)
AreDecisions m (decision ∷ (below ∷ rest)) = IsNext below decision × AreDecisions m (below ∷ rest)

-- an order of these conflicts with the sums of its edges, or a walk that closes it
pub record IsLevel (m : Matrix) (needs : List ℕ) (cycle : ℕ) (l : Level) : Type 0 where
  pub made : IsOrderFor m (order_of l.order)
  pub summed : MatchOption l.closing (IsMetWith m (marks_of l.order) needs cycle l.sums) (IsClosedWith m (marks_of l.order) needs cycle)

-- one for the root order, one for each of 120 pairs, and one for each of 12 links
abbrev pub most_levels : ℕ
most_levels = 133

-- the levels from the root order on, and room for as many as there can be
pub record AreLevels (m : Matrix) (needs : List ℕ) (cycle : ℕ) (levels : List Level) (room : ℕ) : Type 0 where
  pub needed : AreNeeds m needs
  pub lasts : IsCycle cycle
  pub each : All (IsLevel m needs cycle) levels
  pub decisions : AreDecisions m (decisions_of levels)
  pub spacious : most_levels ≤ room
