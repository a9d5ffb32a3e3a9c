-- What a visit of the order at hand does.
use Rattle.std.specs.Prelude.{ℕ, List, [], ◌∷◌, ◌++◌, ◌≡◌, slice_set}
use Rattle.constraint_cycles.specs.Tree.{orders_below}
use Rattle.constraint_cycles.specs.declared.node.Node.{Node}
use Rattle.constraint_cycles.specs.declared.node.Node.TheVariants.{Split, Closed, Unvisited}
use Rattle.cycle_orders.specs.Due.{IsDue}
use Rattle.cycle_orders.specs.Place.{PlaceView, IsMoved, AreStartsHere, order_at, coming_later, MeetsHere, ClosesHere}
use Rattle.cycle_orders.specs.declared.place.Standing.TheVariants.{At}
use Rattle.cycle_orders.specs.declared.visit.Visited.{Visited}
use Rattle.cycle_orders.specs.declared.visit.Visited.TheVariants.{Closed as ClosedBy, Split as SplitAt, Full}

-- the place and the tree before, and after
module _ (old new : PlaceView) (tree grown : List Node) (count : ℕ) where
  -- the first unvisited node carries a walk that closes the order
  pub record IsClosing : Type 0 where
    pub walk : List ℕ
    pub closes : ClosesHere old walk
    pub moved : IsMoved old new (coming_later old)
    pub set : grown ≡ slice_set tree count (Closed walk)

  -- it splits the order, which some starts meet, at its due item; two more unvisited nodes stand at the end
  pub record IsSplitting : Type 0 where
    pub item : ℕ
    pub due : IsDue old.conflicts (order_at old) item
    pub starts : List ℕ
    pub meets : MeetsHere old starts
    pub moved : IsMoved old new (orders_below (order_at old) (Split item) ++ coming_later old)
    pub set : grown ≡ slice_set (tree ++ Unvisited ∷ Unvisited ∷ []) count (Split item)

  -- the order decides each item, and these are its least starts
  pub record IsFull (starts : List ℕ) : Type 0 where
    pub starts_here : AreStartsHere old starts
    pub moved : IsMoved old new old.coming
    pub standing : new.standing ≡ At
    pub same : grown ≡ tree

  abbrev pub IsVisit : Visited → Type 0
  IsVisit ClosedBy = IsClosing
  IsVisit SplitAt = IsSplitting
  IsVisit (Full starts) = IsFull starts
