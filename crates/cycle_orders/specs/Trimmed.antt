-- What trimming leaves of a tree that closes a cycle for a target: a Split that a walk closes for it goes, with all that
-- stands below, and a Closed node takes its place; every other node stays.
use Rattle.std.specs.Prelude.{ℕ, List, [], ◌∷◌, ◌++◌, ◌≡◌, ◌⊎◌, ⊤}
use Rattle.sig_base.specs.declared.lane_set.LaneSet.{LaneSet}
use Rattle.sig_base.specs.declared.target.Target.{Target}
use Rattle.conflict_matrix.specs.Matrix.{Matrix}
use Rattle.constraint_cycles.specs.Marks.{root_marks}
use Rattle.constraint_cycles.specs.Tree.{orders_below}
use Rattle.constraint_cycles.specs.TreeShape.{IsSplitTree}
use Rattle.constraint_cycles.specs.Visit.{Visit, visits}
use Rattle.constraint_cycles.specs.declared.mark.Mark.{Mark}
use Rattle.constraint_cycles.specs.declared.node.Node.{Node}
use Rattle.constraint_cycles.specs.declared.node.Node.TheVariants.{Split, Closed, Unvisited}
use Rattle.junction_model.specs.Junction.{JunctionView}
use Rattle.least_greens.specs.ForTarget.{ClosesFor}
use Rattle.cycle_orders.specs.Lean.{IsUnclosed}

module _ (junction : JunctionView) (lanes : LaneSet) (target : Target) (cycle : ℕ) where
  -- the part of the older tree for which a node of this order stands: a Split that no walk closes, and a Closed node, for
  -- itself; a Closed node also for a Split that its walk closes, with all that stands below
  abbrev pub StandsFor : List Mark → Node → List Node → Type 0
  StandsFor marks (Split item) part = (part ≡ Split item ∷ []) × IsUnclosed junction lanes target cycle marks
  StandsFor marks (Closed walk) part = (part ≡ Closed walk ∷ []) ⊎ (IsSplitTree marks part × ClosesFor junction lanes target cycle marks walk)
  StandsFor marks Unvisited part = ⊥

  -- each node with its own order stands for a part of the older nodes, and the parts together are all of these
  abbrev pub StandFor : List (List Mark) → List Node → List Node → Type 0
  StandFor coming [] older = older ≡ []
  StandFor [] (node ∷ nodes) older = ⊥
  StandFor (marks ∷ coming) (node ∷ nodes) older = (part : List Node) × (rest : List Node) × (older ≡ part ++ rest)
      × StandsFor marks node part × StandFor (orders_below marks node ++ coming) nodes rest

  -- the second tree is what trimming leaves of the first
  abbrev pub IsTrimmed : List Node → List Node → Type 0
  IsTrimmed older nodes = StandFor (root_marks junction.conflicts ∷ []) nodes older

-- one of these nodes is this one, at this order
abbrev pub IsAmong : List Mark → Node → List Visit → Type 0
IsAmong marks node [] = ⊥
IsAmong marks node (visit ∷ before) = (visit ≡ (marks, node)) ⊎ IsAmong marks node before

-- where the node is a Split, the tree has the same one at this order
abbrev pub IsSplitOf : Matrix → List Node → List Mark → Node → Type 0
IsSplitOf m tree marks (Split item) = IsAmong marks (Split item) (visits (root_marks m ∷ []) tree [])
IsSplitOf m tree marks (Closed walk) = ⊤
IsSplitOf m tree marks Unvisited = ⊤
