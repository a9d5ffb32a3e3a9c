-- What contracts see of the place of a search: the orders that are still to come, the one at hand first.
use Rattle.std.specs.Prelude.{ℕ, List, [], ◌∷◌, Option, length, ◌≡◌, ◌≤◌, drop, slice_get, slice_index_or}
use Rattle.conflict_matrix.specs.Matrix.{Matrix}
use Rattle.constraint_cycles.specs.Closing.{Closes}
use Rattle.constraint_cycles.specs.Marks.{OrderView, IsOrderFor, IsDecided, Refines, root_marks}
use Rattle.constraint_cycles.specs.Starts.{MeetsOrder}
use Rattle.constraint_cycles.specs.declared.mark.Mark.{Mark}
use Rattle.difference_system.specs.Closure.{ClosureView}
use Rattle.difference_system.specs.Solution.{AreLeastStarts, AreStartsWithin}
use Rattle.cycle_orders.specs.Way.{IsWay, orders_along, orders_above, orders_waiting}
use Rattle.cycle_orders.specs.declared.place.Standing.{Standing}
use Rattle.cycle_orders.specs.declared.place.Standing.TheVariants.{Above, At, Past}

-- besides, the list of items by which it goes down, the one of them that is decided next, if any, and whether the closure
-- stands at the order at hand
pub record PlaceView : Type 0 where
  pub conflicts : Matrix
  pub needs : List ℕ
  pub cycle : ℕ
  pub coming : List (List Mark)
  pub items : List ℕ
  pub next : Option ℕ
  pub standing : Standing

abbrev pub order_at : PlaceView → List Mark
order_at p = slice_index_or p.coming 0 []

-- the orders to come behind the one at hand
abbrev pub coming_later : PlaceView → List (List Mark)
coming_later p = drop 1 p.coming

-- the starts meet the order at hand
abbrev pub MeetsHere : PlaceView → List ℕ → Type 0
MeetsHere p starts = MeetsOrder p.conflicts (order_at p) p.needs p.cycle starts

-- the walk closes it
abbrev pub ClosesHere : PlaceView → List ℕ → Type 0
ClosesHere p walk = Closes p.conflicts (order_at p) p.needs p.cycle walk

-- the order at hand decides each item, and these are its least starts
pub record AreStartsHere (p : PlaceView) (starts : List ℕ) : Type 0 where
  pub below_root : Refines (root_marks p.conflicts) (order_at p)
  pub decided : IsDecided (order_at p)
  pub least : AreLeastStarts (MeetsHere p) starts
  pub within : AreStartsWithin p.conflicts.groups p.cycle starts

-- with other needs
abbrev pub with_needs : PlaceView → List ℕ → PlaceView
with_needs p needs = record { conflicts = p.conflicts; needs = needs; cycle = p.cycle; coming = p.coming; items = p.items; next = p.next; standing = p.standing }

-- by other items
abbrev pub with_items : PlaceView → List ℕ → PlaceView
with_items p items = record { conflicts = p.conflicts; needs = p.needs; cycle = p.cycle; coming = p.coming; items = items; next = p.next; standing = p.standing }

-- the same question and items, and these orders to come
pub record IsMoved (old new : PlaceView) (orders : List (List Mark)) : Type 0 where
  pub conflicts : new.conflicts ≡ old.conflicts
  pub needs : new.needs ≡ old.needs
  pub cycle : new.cycle ≡ old.cycle
  pub coming : new.coming ≡ orders
  pub items : new.items ≡ old.items

-- the orders to come: none where the search has passed all
abbrev pub coming_at : List ℕ → Standing → List Mark → ℕ → List (List Mark)
coming_at items Above marks depth = marks ∷ orders_waiting items marks depth
coming_at items At marks depth = marks ∷ orders_waiting items marks depth
coming_at items Past marks depth = []

-- the orders of the closure
abbrev pub closure_orders_at : List ℕ → Standing → List Mark → ℕ → List (List Mark)
closure_orders_at items Above marks depth = orders_above items marks depth
closure_orders_at items At marks depth = orders_along items marks depth
closure_orders_at items Past marks depth = orders_above items marks depth

-- the place of a closure, its items, an order that decides so many of them, and where the closure stands
abbrev pub place_of : ClosureView → List ℕ → List Mark → ℕ → Standing → PlaceView
place_of c items marks depth standing = record {
  conflicts = c.conflicts;
  needs = c.needs;
  cycle = c.cycle;
  coming = coming_at items standing marks depth;
  items = items;
  next = slice_get items depth;
  standing = standing;
}

-- these belong together
pub record IsPlace (c : ClosureView) (items : List ℕ) (o : OrderView) (depth : ℕ) (standing : Standing) : Type 0 where
  pub made : IsOrderFor c.conflicts o
  pub within : depth ≤ length items
  pub way : IsWay items c.conflicts o.marks depth
  pub orders : c.orders ≡ closure_orders_at items standing o.marks depth
