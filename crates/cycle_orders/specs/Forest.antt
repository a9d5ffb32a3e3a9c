-- What the trees of a junction's cycles show. A forest has one tree for each cycle, from the least cycle upwards without
-- gaps.
use Rattle.std.specs.Prelude.{ℕ, List, [], ◌∷◌, ◌++◌, length, Option, None, Some, ◌≡◌, ◌+◌, ◌<◌, ◌≤◌, ⊤, All}
use Rattle.sig_base.specs.Ratio.{fraction_of}
use Rattle.sig_base.specs.declared.ratio.Ratio.{Ratio}
use Rattle.sig_base.specs.declared.target.Target.{Target}
use Rattle.sig_base.specs.declared.target.Target.TheVariants.{Reach, Beat}
pub use Rattle.constraint_cycles.specs.Forest.{visited_in}
use Rattle.constraint_cycles.specs.Marks.{root_marks}
use Rattle.constraint_cycles.specs.Tree.{AllNodes, IsSound, IsVisited, IsWholeTree}
use Rattle.constraint_cycles.specs.Visit.{visits}
use Rattle.constraint_cycles.specs.declared.mark.Mark.{Mark}
use Rattle.constraint_cycles.specs.declared.node.Node.{Node}
use Rattle.constraint_cycles.specs.declared.node.Node.TheVariants.{Split, Closed, Unvisited}
use Rattle.junction_model.specs.Junction.{JunctionView}
use Rattle.plan_model.specs.AllLanes.{all_lanes}
use Rattle.plan_model.specs.Claims.{IsPlanMultiplier}
use Rattle.plan_model.specs.Fits.{Fits}
use Rattle.plan_model.specs.SignalPlan.{PlanView}
use Rattle.least_greens.specs.ForTarget.{needs_of, target_beside, ClosesCycleFor}
use Rattle.cycle_orders.specs.Answer.{EndsUnvisited, IsFoundIn}
use Rattle.cycle_orders.specs.Due.{SplitsDue}
use Rattle.cycle_orders.specs.Lean.{IsLeanFor, IsPassed, IsUnclosed}

-- P holds of each tree beside its cycle, the first tree's being given
abbrev pub EachTree : (ℕ → List Node → Type 0) → ℕ → List (List Node) → Type 0
EachTree P cycle [] = ⊤
EachTree P cycle (nodes ∷ forest) = P cycle nodes × EachTree P (cycle + 1) forest

-- the multiple of the trees' targets: the plan's multiplier, or the least where there is no plan
abbrev pub IsMultipleWith : JunctionView → Ratio → Option PlanView → Ratio → Type 0
IsMultipleWith junction least None multiple = multiple ≡ least
IsMultipleWith junction least (Some p) multiple = IsPlanMultiplier junction p (fraction_of multiple)

-- the target of a cycle's tree: the one beside the plan, or to reach the multiple where there is no plan
abbrev pub target_with : Option PlanView → Ratio → ℕ → Target
target_with None multiple cycle = Reach multiple
target_with (Some p) multiple cycle = target_beside p.cycle multiple cycle

-- where the node is a Split, no walk closes its order for beating a plan that fits and has a shorter cycle
abbrev pub OutlastsAt : JunctionView → ℕ → List Mark → Node → Type 0
OutlastsAt junction cycle marks (Split item) = (q : PlanView) (r : Ratio) → Fits junction q → q.cycle < cycle →
    IsPlanMultiplier junction q (fraction_of r) → IsUnclosed junction all_lanes (Beat r) cycle marks
OutlastsAt junction cycle marks (Closed walk) = ⊤
OutlastsAt junction cycle marks Unvisited = ⊤

module _ (junction : JunctionView) where
  -- there is a tree for each cycle below this one
  abbrev pub HasTreesBelow : ℕ → List (List Node) → Type 0
  HasTreesBelow cycle forest = junction.least_cycle + length forest ≡ cycle

  abbrev pub EachTreeOf : (ℕ → List Node → Type 0) → List (List Node) → Type 0
  EachTreeOf P forest = EachTree P junction.least_cycle forest

  -- P holds of each node of the tree with its own order
  abbrev pub EachNode : (List Mark → Node → Type 0) → List Node → Type 0
  EachNode P nodes = AllNodes P (root_marks junction.conflicts ∷ []) nodes

  -- the Closed nodes of the tree close for the target
  abbrev pub IsSoundFor : Target → ℕ → List Node → Type 0
  IsSoundFor target cycle nodes = EachNode (IsSound junction.conflicts (needs_of junction all_lanes target cycle) cycle) nodes

-- P holds of the tree of this cycle
pub record HoldsOfTree (junction : JunctionView) (cycle : ℕ) (P : List Node → Type 0) (forest : List (List Node)) : Type 0 where
  pub shorter : List (List Node)
  pub own : List Node
  pub longer : List (List Node)
  pub joined : forest ≡ shorter ++ own ∷ longer
  pub below : HasTreesBelow junction cycle shorter
  pub holds : P own

-- the plan was found in the tree of its cycle
abbrev pub IsFoundAmong : JunctionView → List (List Node) → PlanView → Type 0
IsFoundAmong junction forest p = HoldsOfTree junction p.cycle (λ nodes. IsFoundIn junction all_lanes nodes p) forest

-- the plan was passed in the tree of its cycle
abbrev pub IsPassedAmong : JunctionView → List (List Node) → PlanView → Type 0
IsPassedAmong junction forest p =
    HoldsOfTree junction p.cycle (λ nodes. IsPassed junction p.cycle p (visits (root_marks junction.conflicts ∷ []) nodes [])) forest

module _ (junction : JunctionView) (least : Ratio) where
  -- lean for reaching the least
  abbrev pub IsLeanForLeast : ℕ → List Node → Type 0
  IsLeanForLeast cycle nodes = IsLeanFor junction all_lanes (Reach least) cycle nodes

  -- each cycle is closed for its target beside the plan: to reach the plan's multiplier below the plan's cycle, and to
  -- beat it from there on
  pub record IsClosedBeside (p : PlanView) (multiplier : Ratio) (forest : List (List Node)) : Type 0 where
    pub is : IsPlanMultiplier junction p (fraction_of multiplier)
    pub trees : HasTreesBelow junction (junction.greatest_cycle + 1) forest
    pub closed : EachTreeOf junction (λ cycle. ClosesCycleFor junction all_lanes (target_beside p.cycle multiplier cycle) cycle) forest
    pub lean : EachTreeOf junction IsLeanForLeast forest

  -- so it is, and each tree is lean for that target too
  pub record IsGreatest (p : PlanView) (forest : List (List Node)) : Type 0 where
    pub multiplier : Ratio
    pub is : IsPlanMultiplier junction p (fraction_of multiplier)
    pub trees : HasTreesBelow junction (junction.greatest_cycle + 1) forest
    pub closed : EachTreeOf junction (λ cycle. ClosesCycleFor junction all_lanes (target_beside p.cycle multiplier cycle) cycle) forest
    pub lean : EachTreeOf junction IsLeanForLeast forest
    pub own_lean : EachTreeOf junction (λ cycle. IsLeanFor junction all_lanes (target_beside p.cycle multiplier cycle) cycle) forest

  -- each cycle below the plan's is closed for reaching the least
  pub record IsShortest (p : PlanView) (forest : List (List Node)) : Type 0 where
    pub trees : HasTreesBelow junction p.cycle forest
    pub closed : EachTreeOf junction (ClosesCycleFor junction all_lanes (Reach least)) forest
    pub lean : EachTreeOf junction IsLeanForLeast forest

  -- each cycle is closed for reaching the least
  pub record IsExhausted (forest : List (List Node)) : Type 0 where
    pub trees : HasTreesBelow junction (junction.greatest_cycle + 1) forest
    pub closed : EachTreeOf junction (ClosesCycleFor junction all_lanes (Reach least)) forest
    pub lean : EachTreeOf junction IsLeanForLeast forest

  -- a whole tree whose Closed nodes close for the target, and which splits no order without need: it is lean for reaching
  -- the least, each Split decides its due item, and none is closed for beating a plan of a shorter cycle
  pub record IsSearchTree (target : Target) (cycle : ℕ) (nodes : List Node) : Type 0 where
    pub whole : IsWholeTree junction.conflicts nodes
    pub sound : IsSoundFor junction target cycle nodes
    pub lean : IsLeanForLeast cycle nodes
    pub due : EachNode junction (SplitsDue junction.conflicts) nodes
    pub outlasts : EachNode junction (OutlastsAt junction cycle) nodes

  -- a search that visited so many nodes and was stopped in its last tree, with the best plan so far, if any
  pub record IsStoppedAt (budget : ℕ) (plan : Option PlanView) (forest : List (List Node)) : Type 0 where
    pub finished : List (List Node)
    pub last : List Node
    pub joined : forest ≡ finished ++ last ∷ []
    pub within : junction.least_cycle + length finished ≤ junction.greatest_cycle
    pub visited : All (All IsVisited) finished
    pub ends : EndsUnvisited last
    pub counted : visited_in forest ≡ budget
    pub multiple : Ratio
    pub is : IsMultipleWith junction least plan multiple
    pub trees : EachTreeOf junction (λ cycle. IsSearchTree (target_with plan multiple cycle) cycle) forest
