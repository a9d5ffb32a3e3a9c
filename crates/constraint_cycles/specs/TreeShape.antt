-- Whole trees by their parts, and how many nodes they can have.
use Rattle.std.specs.Prelude.{ℕ, List, [], ◌∷◌, ◌++◌, length, Bool, true, false, ◌≡◌, ◌+◌, ◌-◌, ◌^◌, ◌≤◌, ◌⊎◌, ◌↔◌, ⊤, All, count_by, slice_set}
use Rattle.conflict_matrix.specs.Matrix.{Matrix}
use Rattle.conflict_matrix.specs.Pairs.{tree_cover_of}
use Rattle.constraint_cycles.specs.Marks.{root_marks}
use Rattle.constraint_cycles.specs.Tree.{Leads, AllNodes, DecidesOpen, IsVisited, visited_count, IsTreeBelow}
use Rattle.constraint_cycles.specs.Visit.{visits, EachVisit}
use Rattle.constraint_cycles.specs.declared.mark.Mark.{Mark}
use Rattle.constraint_cycles.specs.declared.mark.Mark.TheVariants.{Open, First, Second}
use Rattle.constraint_cycles.specs.declared.node.Node.{Node}
use Rattle.constraint_cycles.specs.declared.node.Node.TheVariants.{Split, Closed, Unvisited}

abbrev pub IsLeaf : Node → Type 0
IsLeaf (Split item) = ⊥
IsLeaf (Closed walk) = ⊤
IsLeaf Unvisited = ⊤

-- one Closed or Unvisited node
pub record IsLeafTree (nodes : List Node) : Type 0 where
  pub leaf : Node
  pub alone : nodes ≡ leaf ∷ []
  pub closed_or_unvisited : IsLeaf leaf

-- a Split, and a whole tree for each way of its item
pub record IsSplitTree (marks : List Mark) (nodes : List Node) : Type 0 where
  pub item : ℕ
  pub first : List Node
  pub second : List Node
  pub joined : nodes ≡ Split item ∷ (first ++ second)
  pub first_tree : IsTreeBelow (slice_set marks item First) first
  pub second_tree : IsTreeBelow (slice_set marks item Second) second

abbrev pub TreeShapeLaw : Type 0
TreeShapeLaw = (marks : List Mark) (nodes : List Node) → IsTreeBelow marks nodes ↔ (IsLeafTree nodes ⊎ IsSplitTree marks nodes)

-- P holds of every node exactly where it holds of every visit
abbrev pub VisitLaw : (List Mark → Node → Type 0) → Type 0
VisitLaw P = (coming rest : List (List Mark)) (nodes : List Node) → Leads coming nodes rest →
    AllNodes P coming nodes ↔ EachVisit P (visits coming nodes [])

abbrev pub is_open : Mark → Bool
is_open Open = true
is_open First = false
is_open Second = false

-- the nodes of a whole binary tree with a level for each open item, and one for its leaves
abbrev pub most_nodes : List Mark → ℕ
most_nodes marks = 2 ^ (count_by is_open marks + 1) - 1

-- a whole tree whose Splits decide open items has no more nodes
abbrev pub NodeCountLaw : Type 0
NodeCountLaw = (marks : List Mark) (nodes : List Node) → IsTreeBelow marks nodes → AllNodes DecidesOpen (marks ∷ []) nodes →
    length nodes ≤ most_nodes marks

-- the count of the visited nodes is that of all nodes where none is unvisited
abbrev pub VisitedCountLaw : Type 0
VisitedCountLaw = (nodes : List Node) → All IsVisited nodes → visited_count nodes ≡ length nodes

-- at the root the open items are the pairs without group 0 and the links
abbrev pub RootCountLaw : Type 0
RootCountLaw = (m : Matrix) → most_nodes (root_marks m) ≡ tree_cover_of m
