-- The orders of the subtrees that are still to come.
use Rattle.std.specs.Prelude.{ℕ, List, [], ◌∷◌, map, length, count_by, slice_set, ◌+◌, ◌≤◌, ⊤}
use Rattle.constraint_cycles.specs.Marks.{OrderView}
use Rattle.constraint_cycles.specs.TreeShape.{is_open}
use Rattle.constraint_cycles.specs.declared.mark.Mark.{Mark}
use Rattle.constraint_cycles.specs.declared.mark.Mark.TheVariants.{First, Second}
use Rattle.constraint_cycles.specs.declared.node.Node.{Node}
use Rattle.constraint_cycles.specs.declared.node.Node.TheVariants.{Split, Closed, Unvisited}

abbrev pub marks_of_each : List OrderView → List (List Mark)
marks_of_each orders = map (λ (o : OrderView). o.marks) orders

-- the order with one more decision
abbrev pub order_with : OrderView → ℕ → Mark → OrderView
order_with o item mark = record { marks = slice_set o.marks item mark; fixed = o.fixed }

-- the orders below a node of this order
abbrev pub views_below : OrderView → Node → List OrderView
views_below o (Split item) = order_with o item First ∷ order_with o item Second ∷ []
views_below o (Closed walk) = []
views_below o Unvisited = []

-- each order has at most so many open items as orders can still be put on those behind it
abbrev pub HaveRoom : List OrderView → Type 0
HaveRoom [] = ⊤
HaveRoom (o ∷ later) = (count_by is_open o.marks + length later ≤ 132) × HaveRoom later
