-- How a tree is trimmed: it is read in preorder, and what is left of the nodes that were read is written. Both lists lead to
-- the same orders to come.
use Rattle.std.specs.Prelude.{ℕ, zero, suc, List, [], ◌∷◌, ◌++◌, length, drop, take, ◌≡◌, ◌+◌, ◌≤◌, ◌⊎◌, All}
use Rattle.constraint_cycles.specs.Marks.{root_marks}
use Rattle.constraint_cycles.specs.Tree.{Leads, AllNodes, DecidesOpen, IsVisited, orders_below}
use Rattle.constraint_cycles.specs.TreeShape.{IsSplitTree}
use Rattle.constraint_cycles.specs.declared.node.Node.{Node}
use Rattle.constraint_cycles.specs.declared.node.Node.TheVariants.{Split, Closed, Unvisited}
use Rattle.cycle_orders.specs.Place.{PlaceView, IsMoved, order_at, coming_later, MeetsHere, ClosesHere, with_items}
use Rattle.cycle_orders.specs.Search.{SearchView}
use Rattle.cycle_orders.specs.Standing.{HasNeedsOf}
use Rattle.cycle_orders.specs.Trimmed.{StandFor}

-- the nodes behind the first trees, so many
abbrev pub behind_trees : ℕ → List Node → List Node
behind_trees zero nodes = nodes
behind_trees (suc count) [] = []
behind_trees (suc count) (Split item ∷ nodes) = behind_trees (suc (suc count)) nodes
behind_trees (suc count) (Closed walk ∷ nodes) = behind_trees count nodes
behind_trees (suc count) (Unvisited ∷ nodes) = behind_trees count nodes

-- from here on the nodes are whole trees of the orders to come, whose Splits decide open items; none is unvisited
pub record IsReading (p : PlaceView) (nodes : List Node) (at : ℕ) : Type 0 where
  pub whole : Leads p.coming (drop at nodes) []
  pub visited : All IsVisited nodes
  pub decides : AllNodes DecidesOpen p.coming (drop at nodes)

-- the part of these nodes for which a node of the order at hand stands: a Split that some starts meet, and a Closed node,
-- for itself; a Closed node also for a Split that its walk closes, with all that stands below
abbrev pub StandsHere : PlaceView → Node → List Node → Type 0
StandsHere p (Split item) part = (part ≡ Split item ∷ []) × ((starts : List ℕ) × MeetsHere p starts)
StandsHere p (Closed walk) part = (part ≡ Closed walk ∷ []) ⊎ (IsSplitTree (order_at p) part × ClosesHere p walk)
StandsHere p Unvisited part = ⊥

-- a part of the nodes was read, and the node that stands for it was written
pub record IsTrimStep (old new : PlaceView) (nodes : List Node) (at next : ℕ) (trimmed grown : List Node) : Type 0 where
  pub node : Node
  pub part : List Node
  pub read : drop at nodes ≡ part ++ drop next nodes
  pub counted : next ≡ at + length part
  pub some : 1 ≤ length part
  pub stands : StandsHere old node part
  pub moved : IsMoved (with_items old new.items) new (orders_below (order_at old) node ++ coming_later old)
  pub written : grown ≡ trimmed ++ node ∷ []

-- what is written stands for all that was read, for the target of the search
pub record IsTrimming (s : SearchView) (nodes : List Node) (p : PlaceView) (at : ℕ) (trimmed : List Node) : Type 0 where
  pub asks : HasNeedsOf s s.target p
  pub within : at ≤ length nodes
  pub reading : IsReading p nodes at
  pub stand : StandFor s.junction s.lanes s.target s.cycle (root_marks s.junction.conflicts ∷ []) trimmed (take at nodes)
  pub leads : Leads (root_marks s.junction.conflicts ∷ []) trimmed p.coming
