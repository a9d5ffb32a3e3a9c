-- Trees of orders. Each plan meets one full order, one that decides each item, and a Split has it in one of its two
-- subtrees; so where every leaf has a walk that closes its own order, no plan is left: the tree excludes every plan of its
-- cycle. A tree is the flat list of its nodes in preorder, as it is made, stored and read again. The list is read beside
-- the orders of the subtrees that are still to come: a node takes the first of them as its own and puts those below it in
-- its place, so no node has to name its order, its parent or its children. The list is one whole tree where, beginning
-- with the root's order alone, none is left to come.
use Rattle.std.specs.Prelude.{ℕ, List, [], ◌∷◌, ◌++◌, Some, ◌≡◌, ⊤, Bool, true, false, IsTrue, All, count_by, slice_get, slice_set}
use Rattle.conflict_matrix.specs.Matrix.{Matrix}
use Rattle.constraint_cycles.specs.Marks.{root_marks}
use Rattle.constraint_cycles.specs.Closing.{Closes}
use Rattle.constraint_cycles.specs.declared.mark.Mark.{Mark}
use Rattle.constraint_cycles.specs.declared.mark.Mark.TheVariants.{Open, First, Second}
use Rattle.constraint_cycles.specs.declared.node.Node.{Node}
use Rattle.constraint_cycles.specs.declared.node.Node.TheVariants.{Split, Closed, Unvisited}

-- the orders of the subtrees below a node of this order: a Split decides an item in both ways
abbrev pub orders_below : List Mark → Node → List (List Mark)
orders_below marks (Split item) = slice_set marks item First ∷ slice_set marks item Second ∷ []
orders_below marks (Closed walk) = []
orders_below marks Unvisited = []

-- each node in turn takes the first order that is to come, and puts those below it in its place; the rest is left
abbrev pub Leads : List (List Mark) → List Node → List (List Mark) → Type 0
Leads coming [] rest = coming ≡ rest
Leads [] (node ∷ nodes) rest = ⊥
Leads (marks ∷ coming) (node ∷ nodes) rest = Leads (orders_below marks node ++ coming) nodes rest

-- P holds of every node with its own order, the one that it takes
abbrev pub AllNodes : (List Mark → Node → Type 0) → List (List Mark) → List Node → Type 0
AllNodes P coming [] = ⊤
AllNodes P [] (node ∷ nodes) = ⊥
AllNodes P (marks ∷ coming) (node ∷ nodes) = P marks node × AllNodes P (orders_below marks node ++ coming) nodes

-- a Split names an item that is open in its own order
abbrev pub DecidesOpen : List Mark → Node → Type 0
DecidesOpen marks (Split item) = slice_get marks item ≡ Some Open
DecidesOpen marks (Closed walk) = ⊤
DecidesOpen marks Unvisited = ⊤

-- so it does, and a Closed node has a walk that closes its own order
abbrev pub IsSound : Matrix → List ℕ → ℕ → List Mark → Node → Type 0
IsSound m needs cycle marks (Split item) = slice_get marks item ≡ Some Open
IsSound m needs cycle marks (Closed walk) = Closes m marks needs cycle walk
IsSound m needs cycle marks Unvisited = ⊤

abbrev pub is_visited : Node → Bool
is_visited (Split item) = true
is_visited (Closed walk) = true
is_visited Unvisited = false

abbrev pub IsVisited : Node → Type 0
IsVisited node = IsTrue (is_visited node)

-- the number of Split and Closed nodes
abbrev pub visited_count : List Node → ℕ
visited_count nodes = count_by is_visited nodes

-- the nodes are one whole tree below an order
abbrev pub IsTreeBelow : List Mark → List Node → Type 0
IsTreeBelow marks nodes = Leads (marks ∷ []) nodes []

-- the nodes are one whole tree, whose root has the root order
abbrev pub IsWholeTree : Matrix → List Node → Type 0
IsWholeTree m nodes = IsTreeBelow (root_marks m) nodes

-- the nodes are one whole tree that closes the cycle for these needs
pub record ClosesCycle (m : Matrix) (needs : List ℕ) (cycle : ℕ) (nodes : List Node) : Type 0 where
  pub whole : IsWholeTree m nodes
  pub visited : All IsVisited nodes
  pub sound : AllNodes (IsSound m needs cycle) (root_marks m ∷ []) nodes
