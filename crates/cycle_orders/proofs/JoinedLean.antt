-- Trees that are lean for a target are lean for lesser ones, and outlast what isn't above it.
use Rattle.std.proofs.Common.{ℕ, List, [], ◌∷◌, ◌<◌, ◌≤◌}
use Rattle.sig_base.specs.Ratio.{fraction_of}
use Rattle.sig_base.specs.declared.ratio.Ratio.{Ratio}
use Rattle.sig_base.specs.declared.target.Target.{Target}
use Rattle.sig_base.specs.declared.target.Target.TheVariants.{Beat}
use Rattle.constraint_cycles.specs.Marks.{root_marks}
use Rattle.constraint_cycles.specs.Tree.{IsWholeTree}
use Rattle.constraint_cycles.specs.Visit.{Visit, visits, EachVisit}
use Rattle.constraint_cycles.specs.declared.mark.Mark.{Mark}
use Rattle.constraint_cycles.specs.declared.node.Node.{Node}
use Rattle.constraint_cycles.specs.declared.node.Node.TheVariants.{Split, Closed, Unvisited}
use Rattle.constraint_cycles.proofs.Visits.{visit_law}
use Rattle.junction_model.specs.Junction.{JunctionView}
use Rattle.plan_model.specs.AllLanes.{all_lanes}
use Rattle.plan_model.specs.Claims.{IsPlanMultiplier}
use Rattle.plan_model.specs.Fits.{Fits}
use Rattle.plan_model.specs.SignalPlan.{PlanView}
use Rattle.least_greens.specs.ClosingLaws.{RisingWalkLaw}
use Rattle.least_greens.specs.Targets.{IsNotAbove}
use Rattle.cycle_orders.specs.Forest.{EachNode, OutlastsAt}
use Rattle.cycle_orders.specs.Lean.{IsLeanFor, IsNeededSplit, AreNeeded, IsUnclosed}

-- a plan of a shorter cycle asks for no more than the target
abbrev pub AreBeatenBelow : JunctionView → ℕ → Target → Type 0
AreBeatenBelow junction cycle target = (q : PlanView) (r : Ratio) → Fits junction q → q.cycle < cycle → IsPlanMultiplier junction q (fraction_of r) →
    IsNotAbove (Beat r) target

module _ (rising : RisingWalkLaw) (junction : JunctionView) (cycle : ℕ) (some : 1 ≤ cycle) where
  unclosed_lesser : (s t : Target) (marks : List Mark) → IsNotAbove s t → IsUnclosed junction all_lanes t cycle marks → IsUnclosed junction all_lanes s cycle marks
  unclosed_lesser s t marks order unclosed walk closes = unclosed walk (rising junction all_lanes s t cycle marks walk some order closes)

  module _ (s t : Target) (order : IsNotAbove s t) where
    needed_lesser : (before : List Visit) (marks : List Mark) (node : Node) → IsNeededSplit junction all_lanes t cycle before marks node →
        IsNeededSplit junction all_lanes s cycle before marks node
    needed_lesser before marks (Split item) needed = record { unclosed = unclosed_lesser s t marks order needed.unclosed; passed = needed.passed }
    needed_lesser before marks (Closed walk) needed = tt
    needed_lesser before marks Unvisited needed = tt

    all_lesser : (before : List Visit) → AreNeeded junction all_lanes t cycle before → AreNeeded junction all_lanes s cycle before
    all_lesser [] needed = tt
    all_lesser (visit ∷ before) needed = (needed_lesser before visit.0 visit.1 needed.0, all_lesser before needed.1)

    pub lean_lesser : (nodes : List Node) → IsLeanFor junction all_lanes t cycle nodes → IsLeanFor junction all_lanes s cycle nodes
    lean_lesser nodes = all_lesser (visits (root_marks junction.conflicts ∷ []) nodes [])

  module _ (target : Target) (beaten : AreBeatenBelow junction cycle target) where
    node_outlasts : (before : List Visit) (marks : List Mark) (node : Node) → IsNeededSplit junction all_lanes target cycle before marks node →
        OutlastsAt junction cycle marks node
    node_outlasts before marks (Split item) needed =
        λ q r fits shorter is. unclosed_lesser (Beat r) target marks (beaten q r fits shorter is) needed.unclosed
    node_outlasts before marks (Closed walk) needed = tt
    node_outlasts before marks Unvisited needed = tt

    visits_outlast : (before : List Visit) → AreNeeded junction all_lanes target cycle before → EachVisit (OutlastsAt junction cycle) before
    visits_outlast [] needed = tt
    visits_outlast (visit ∷ before) needed = (node_outlasts before visit.0 visit.1 needed.0, visits_outlast before needed.1)

    pub lean_outlasts : (nodes : List Node) → IsWholeTree junction.conflicts nodes → IsLeanFor junction all_lanes target cycle nodes →
        EachNode junction (OutlastsAt junction cycle) nodes
    lean_outlasts nodes whole lean = (visit_law (OutlastsAt junction cycle) (root_marks junction.conflicts ∷ []) [] nodes whole).1
        (visits_outlast (visits (root_marks junction.conflicts ∷ []) nodes []) lean)
