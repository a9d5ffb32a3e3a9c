-- The rules that a tree of a certificate can break, each with the place where it does.
use Rattle.std.specs.Prelude.{ℕ, List, [], ◌∷◌, length, take, true, false, Some, None, ◌≡◌, ◌≢◌, ◌<◌, ◌≤◌, ◌⊎◌, All, ℤ, pos, ◌≤ℤ◌, slice_get, slice_index}
use Rattle.constraint_cycles.specs.Marks.{root_marks}
use Rattle.constraint_cycles.specs.Edge.{longest_green}
use Rattle.constraint_cycles.specs.Walk.{sum_of}
use Rattle.constraint_cycles.specs.Tree.{Leads, IsVisited, IsWholeTree}
use Rattle.constraint_cycles.specs.declared.mark.Mark.{Mark}
use Rattle.constraint_cycles.specs.declared.mark.Mark.TheVariants.{Open}
use Rattle.constraint_cycles.specs.declared.node.Node.{Node}
use Rattle.constraint_cycles.specs.declared.node.Node.TheVariants as node
use Rattle.certificate_checker.specs.Basis.{BasisView, edges_of}
use Rattle.certificate_checker.specs.Rules.{rule_number}
use Rattle.certificate_checker.specs.declared.rule.Rule.{Rule}
use Rattle.certificate_checker.specs.declared.rule.Rule.TheVariants.{Tree, Pair, Unvisited, Edge, Sum}

-- the order of the subtree that begins at this place, by the Splits before it
pub record HasOrder (basis : BasisView) (nodes : List Node) (place : ℕ) (marks : List Mark) : Type 0 where
  pub later : List (List Mark)
  pub leads : Leads (root_marks basis.conflicts ∷ []) (take place nodes) (marks ∷ later)

-- the node at this place, and its own order
pub record IsAt (basis : BasisView) (nodes : List Node) (place : ℕ) (marks : List Mark) (own : Node) : Type 0 where
  pub there : slice_get nodes place ≡ Some own
  pub order : HasOrder basis nodes place marks

-- a subtree is missing at the end of the nodes
abbrev pub IsMissing : BasisView → List Node → ℕ → Type 0
IsMissing basis nodes place = (place ≡ length nodes) × ((marks : List Mark) × HasOrder basis nodes place marks)

-- the first node that stands after the whole tree
abbrev pub IsTooMany : BasisView → List Node → ℕ → Type 0
IsTooMany basis nodes place = (place < length nodes) × Leads (root_marks basis.conflicts ∷ []) (take place nodes) []

-- a Split names no item, or one that isn't open in its own order
pub record NamesNoOpenItem (basis : BasisView) (nodes : List Node) (place : ℕ) : Type 0 where
  pub item : ℕ
  pub marks : List Mark
  pub at_split : IsAt basis nodes place marks (node.Split item)
  pub not_open : slice_get marks item ≢ Some Open

-- an Unvisited node in a tree that may have none: any but the last one of a stopped search
abbrev pub IsUnvisitedHere : BasisView → List Node → ℕ → Type 0
IsUnvisitedHere basis nodes place = (slice_get nodes place ≡ Some node.Unvisited) × (basis.unfinished ≡ false)

-- a visited node that follows an Unvisited one
pub record FollowsUnvisited (nodes : List Node) (place : ℕ) : Type 0 where
  pub own : Node
  pub there : slice_get nodes place ≡ Some own
  pub visited : IsVisited own
  pub before : ℕ
  pub earlier : before < place
  pub unvisited : slice_get nodes before ≡ Some node.Unvisited

-- the last tree of a stopped search is whole and has no Unvisited node; the place is the tree's length
pub record IsFinished (basis : BasisView) (nodes : List Node) (place : ℕ) : Type 0 where
  pub stopped : basis.unfinished ≡ true
  pub past : place ≡ length nodes
  pub whole : IsWholeTree basis.conflicts nodes
  pub visited : All IsVisited nodes

-- some step of a walk of two groups or more has no edge
pub record LacksAnEdge (basis : BasisView) (marks : List Mark) (walk : List ℕ) : Type 0 where
  pub several : 2 ≤ length walk
  pub missing : sum_of (edges_of basis marks) walk ≡ None

-- each of its steps has one, and the weights add up to 0 at most
pub record HasLowSum (basis : BasisView) (marks : List Mark) (walk : List ℕ) : Type 0 where
  pub several : 2 ≤ length walk
  pub sum : ℤ
  pub adds : sum_of (edges_of basis marks) walk ≡ Some sum
  pub at_most : sum ≤ℤ pos 0

-- a walk of one group for which some green is enough
pub record IsOfServedGroup (basis : BasisView) (walk : List ℕ) : Type 0 where
  pub group : ℕ
  pub alone : walk ≡ group ∷ []
  pub served : slice_index basis.needs group ≤ longest_green

-- a Closed node whose walk lacks an edge
pub record HasNoEdge (basis : BasisView) (nodes : List Node) (place : ℕ) : Type 0 where
  pub walk : List ℕ
  pub marks : List Mark
  pub at_closed : IsAt basis nodes place marks (node.Closed walk)
  pub lacks : LacksAnEdge basis marks walk

-- a Closed node whose walk has all edges and doesn't close its order
pub record HasNoPositiveSum (basis : BasisView) (nodes : List Node) (place : ℕ) : Type 0 where
  pub walk : List ℕ
  pub marks : List Mark
  pub at_closed : IsAt basis nodes place marks (node.Closed walk)
  pub low : HasLowSum basis marks walk ⊎ IsOfServedGroup basis walk

-- the rule is broken at this place of the nodes
abbrev pub BreaksAt : BasisView → List Node → Rule → ℕ → Type 0
BreaksAt basis nodes Tree place = IsMissing basis nodes place ⊎ IsTooMany basis nodes place
BreaksAt basis nodes Pair place = NamesNoOpenItem basis nodes place
BreaksAt basis nodes Unvisited place = IsUnvisitedHere basis nodes place ⊎ (FollowsUnvisited nodes place ⊎ IsFinished basis nodes place)
BreaksAt basis nodes Edge place = HasNoEdge basis nodes place
BreaksAt basis nodes Sum place = HasNoPositiveSum basis nodes place
BreaksAt basis nodes rule place = ⊥

abbrev pub NoneBreaks : BasisView → List Node → Type 0
NoneBreaks basis nodes = (rule : Rule) (place : ℕ) → ¬ BreaksAt basis nodes rule place

-- the first broken rule of a tree: none is broken at an earlier place, and none of a smaller number at this one
pub record IsFirstBroken (basis : BasisView) (nodes : List Node) (rule : Rule) (place : ℕ) : Type 0 where
  pub broken : BreaksAt basis nodes rule place
  pub earlier : (other : Rule) (before : ℕ) → before < place → ¬ BreaksAt basis nodes other before
  pub smaller : (other : Rule) → BreaksAt basis nodes other place → rule_number rule ≤ rule_number other
