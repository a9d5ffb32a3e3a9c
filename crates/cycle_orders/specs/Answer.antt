-- What a search answers.
use Rattle.std.specs.Prelude.{ℕ, List, [], ◌∷◌, ◌++◌, Option, None, Some, ◌≡◌, ◌+◌, ◌<◌, ⊤, All, IfSome, replicate}
use Rattle.sig_base.specs.declared.lane_set.LaneSet.{LaneSet}
use Rattle.sig_base.specs.declared.target.Target.{Target}
use Rattle.conflict_matrix.specs.Pairs.{tree_cover_of}
use Rattle.constraint_cycles.specs.Marks.{root_marks}
use Rattle.constraint_cycles.specs.Tree.{AllNodes, IsSound, IsVisited, IsWholeTree, visited_count}
use Rattle.constraint_cycles.specs.Visit.{visits}
use Rattle.constraint_cycles.specs.declared.mark.Mark.{Mark}
use Rattle.constraint_cycles.specs.declared.node.Node.{Node}
use Rattle.constraint_cycles.specs.declared.node.Node.TheVariants.{Closed, Unvisited}
use Rattle.junction_model.specs.Junction.{JunctionView}
use Rattle.least_greens.specs.ForTarget.{needs_of, ClosesCycleFor}
use Rattle.plan_model.specs.FittedPlan.{junction_of, fitted_plan_of}
use Rattle.plan_model.specs.Multiplier.{MeetsTarget}
use Rattle.plan_model.specs.SignalPlan.{PlanView}
use Rattle.plan_model.specs.declared.fitted_plan.FittedPlan.{FittedPlan}
use Rattle.cycle_orders.specs.Due.{SplitsDue}
use Rattle.cycle_orders.specs.Lean.{IsLeanFor}
use Rattle.cycle_orders.specs.Search.{SearchView, IsRunning, IsAtOwnRatio, IsPlanFor, IsEarlierPlan}
use Rattle.cycle_orders.specs.SearchedNodes.{AreSearched}
use Rattle.cycle_orders.specs.Trimmed.{IsAmong}
use Rattle.cycle_orders.specs.declared.answer.CycleAnswer.{CycleAnswer}
use Rattle.cycle_orders.specs.declared.answer.CycleAnswer.TheVariants as answer
use Rattle.cycle_orders.specs.declared.answer.Mode.TheVariants as mode

-- unvisited nodes, at least one, stand behind all others
pub record EndsUnvisited (nodes : List Node) : Type 0 where
  pub visited : List Node
  pub more : ℕ
  pub joined : nodes ≡ visited ++ Unvisited ∷ replicate more Unvisited
  pub each : All IsVisited visited

-- a tree that closes the cycle for the target, lean for the asked one, whose Splits decide their due items
pub record IsClosedTree (s : SearchView) (target : Target) (nodes : List Node) : Type 0 where
  pub closes : ClosesCycleFor s.junction s.lanes target s.cycle nodes
  pub due : AllNodes (SplitsDue s.junction.conflicts) (root_marks s.junction.conflicts ∷ []) nodes
  pub lean : IsLeanFor s.junction s.lanes s.target s.cycle nodes

-- a whole tree like that, but for the unvisited nodes at its end; so it has fewer visited nodes than a whole tree can have
pub record IsStoppedTree (s : SearchView) (target : Target) (nodes : List Node) : Type 0 where
  pub whole : IsWholeTree s.junction.conflicts nodes
  pub ends : EndsUnvisited nodes
  pub sound : AllNodes (IsSound s.junction.conflicts (needs_of s.junction s.lanes target s.cycle) s.cycle) (root_marks s.junction.conflicts ∷ []) nodes
  pub due : AllNodes (SplitsDue s.junction.conflicts) (root_marks s.junction.conflicts ∷ []) nodes
  pub lean : IsLeanFor s.junction s.lanes s.target s.cycle nodes
  pub few : visited_count nodes < tree_cover_of s.junction.conflicts

abbrev pub plan_in : Option FittedPlan → Option PlanView
plan_in None = None
plan_in (Some f) = Some (fitted_plan_of f)

-- the plan of the junction that ends a search in mode First: these nodes were visited, and it is the plan of the order
-- that comes next
pub record IsFirstPlan (s : SearchView) (nodes : List Node) (f : FittedPlan) : Type 0 where
  pub mode : s.mode ≡ mode.First
  pub junction : junction_of f ≡ s.junction
  pub marks : List Mark
  pub later : List (List Mark)
  pub searched : AreSearched s s.target nodes (marks ∷ later)
  pub plan : IsPlanFor s s.target marks (fitted_plan_of f)

-- the last plan of the junction that was found in mode Best: one for the target that was running before it
pub record IsBestPlan (s : SearchView) (f : FittedPlan) : Type 0 where
  pub mode : s.mode ≡ mode.Best
  pub junction : junction_of f ≡ s.junction
  pub before : Option PlanView
  pub earlier : IsEarlierPlan s before
  pub for_target : Target
  pub running : IsRunning s before for_target
  pub marks : List Mark
  pub plan : IsPlanFor s for_target marks (fitted_plan_of f)

-- the plan was found in this tree: it is that of a Closed node's order, which decides each item, for reaching its own
-- multiplier over the lanes; so its starts, with its own greens, meet that order, and the tree has passed it
pub record IsFoundIn (junction : JunctionView) (lanes : LaneSet) (nodes : List Node) (p : PlanView) : Type 0 where
  pub marks : List Mark
  pub walk : List ℕ
  pub closed : IsAmong marks (Closed walk) (visits (root_marks junction.conflicts ∷ []) nodes [])
  pub best : IsAtOwnRatio junction lanes marks p

abbrev pub IsCarried : SearchView → Option FittedPlan → Type 0
IsCarried s None = ⊤
IsCarried s (Some f) = IsBestPlan s f

-- no plan of the cycle meets the target over the lanes
abbrev pub IsExcluded : SearchView → Target → Type 0
IsExcluded s target = (p : PlanView) → p.cycle ≡ s.cycle → ¬ MeetsTarget s.junction p s.lanes target

-- the search has come to its end: the tree closes the cycle for the running target, and so no plan of the cycle meets it
pub record IsEnded (s : SearchView) (nodes : List Node) (plan : Option FittedPlan) : Type 0 where
  pub target : Target
  pub running : IsRunning s (plan_in plan) target
  pub tree : IsClosedTree s target nodes
  pub excluded : IsExcluded s target
  pub carried : IsCarried s plan
  pub found : IfSome (plan_in plan) (IsFoundIn s.junction s.lanes nodes)

-- the search was stopped: the tree's Closed nodes close for the running target
pub record IsStopped (s : SearchView) (nodes : List Node) (plan : Option FittedPlan) : Type 0 where
  pub target : Target
  pub running : IsRunning s (plan_in plan) target
  pub tree : IsStoppedTree s target nodes
  pub carried : IsCarried s plan
  pub found : IfSome (plan_in plan) (IsFoundIn s.junction s.lanes nodes)

-- what is answered within a budget of visited nodes, of which this much is left: the first plan's own node is one more,
-- and a stop comes only where nothing is left
abbrev pub IsSearchAnswer : SearchView → ℕ → ℕ → CycleAnswer → Type 0
IsSearchAnswer s budget left (answer.Closed nodes plan) = IsEnded s nodes plan × (visited_count nodes + left ≡ budget)
IsSearchAnswer s budget left (answer.Found plan) =
    (nodes : List Node) × IsFirstPlan s nodes plan × (visited_count nodes + 1 + left ≡ budget)
IsSearchAnswer s budget left (answer.Stopped nodes plan) = IsStopped s nodes plan × (visited_count nodes ≡ budget) × (left ≡ 0)
