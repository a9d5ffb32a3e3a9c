-- The nodes of a tree in preorder, each beside its own order.
use Rattle.std.specs.Prelude.{List, [], ◌∷◌, ◌++◌, ⊤}
use Rattle.constraint_cycles.specs.Tree.{orders_below}
use Rattle.constraint_cycles.specs.declared.mark.Mark.{Mark}
use Rattle.constraint_cycles.specs.declared.node.Node.{Node}

-- a node beside its own order
abbrev pub Visit : Type 0
Visit = List Mark × Node

-- all nodes with their own orders, the Unvisited ones too, the last one first, in front of those that stand before them
abbrev pub visits : List (List Mark) → List Node → List Visit → List Visit
visits coming [] before = before
visits [] (node ∷ nodes) before = before
visits (marks ∷ coming) (node ∷ nodes) before = visits (orders_below marks node ++ coming) nodes ((marks, node) ∷ before)

-- P holds of every node with its own order
abbrev pub EachVisit : (List Mark → Node → Type 0) → List Visit → Type 0
EachVisit P [] = ⊤
EachVisit P (visit ∷ before) = P visit.0 visit.1 × EachVisit P before
