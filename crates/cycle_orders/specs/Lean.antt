-- Trees that split no order without need: one that a walk closes, for the target that is asked or for that of beating a
-- plan which the tree has already passed, is not split.
use Rattle.std.specs.Prelude.{ℕ, List, [], ◌∷◌, ◌≡◌, ◌⊎◌, ⊤}
use Rattle.sig_base.specs.Ratio.{fraction_of}
use Rattle.sig_base.specs.declared.lane_set.LaneSet.{LaneSet}
use Rattle.sig_base.specs.declared.ratio.Ratio.{Ratio}
use Rattle.sig_base.specs.declared.target.Target.{Target}
use Rattle.sig_base.specs.declared.target.Target.TheVariants.{Beat}
use Rattle.constraint_cycles.specs.Marks.{root_marks}
use Rattle.constraint_cycles.specs.Starts.{MeetsOrder}
use Rattle.constraint_cycles.specs.Visit.{Visit, visits}
use Rattle.constraint_cycles.specs.declared.mark.Mark.{Mark}
use Rattle.constraint_cycles.specs.declared.node.Node.{Node}
use Rattle.constraint_cycles.specs.declared.node.Node.TheVariants.{Split, Closed, Unvisited}
use Rattle.junction_model.specs.Junction.{JunctionView}
use Rattle.least_greens.specs.ForTarget.{ClosesFor}
use Rattle.plan_model.specs.Multiplier.{IsLeastMultiplier}
use Rattle.plan_model.specs.OwnOrder.{BeginsWithGroup0}
use Rattle.plan_model.specs.SignalPlan.{PlanView}

-- no walk closes the order for the target
abbrev pub IsUnclosed : JunctionView → LaneSet → Target → ℕ → List Mark → Type 0
IsUnclosed junction lanes target cycle marks = (walk : List ℕ) → ¬ ClosesFor junction lanes target cycle marks walk

-- the plan's starts, with its own greens as the needs, meet the order
abbrev pub MeetsByGreens : JunctionView → PlanView → List Mark → Type 0
MeetsByGreens junction p marks = MeetsOrder junction.conflicts marks p.greens p.cycle p.starts

-- the node is Closed, and the plan meets its order
abbrev pub MeetsClosed : JunctionView → PlanView → List Mark → Node → Type 0
MeetsClosed junction p marks (Split item) = ⊥
MeetsClosed junction p marks (Closed walk) = MeetsByGreens junction p marks
MeetsClosed junction p marks Unvisited = ⊥

-- one of these nodes is Closed, and the plan meets its order
abbrev pub MeetsSomeClosed : JunctionView → PlanView → List Visit → Type 0
MeetsSomeClosed junction p [] = ⊥
MeetsSomeClosed junction p (visit ∷ before) = MeetsClosed junction p visit.0 visit.1 ⊎ MeetsSomeClosed junction p before

-- a plan of the cycle that fits and begins with group 0 was passed: it meets the order of a Closed node before
pub record IsPassed (junction : JunctionView) (cycle : ℕ) (p : PlanView) (before : List Visit) : Type 0 where
  pub begins : BeginsWithGroup0 junction p
  pub lasts : p.cycle ≡ cycle
  pub met : MeetsSomeClosed junction p before

-- an order behind these nodes has to be split: no walk closes it for the target, nor for that of beating a plan which
-- was passed
pub record IsNeeded (junction : JunctionView) (lanes : LaneSet) (target : Target) (cycle : ℕ) (before : List Visit) (marks : List Mark) : Type 0 where
  pub unclosed : IsUnclosed junction lanes target cycle marks
  pub passed : (p : PlanView) (r : Ratio) → IsPassed junction cycle p before →
      IsLeastMultiplier junction p lanes (fraction_of r) → IsUnclosed junction lanes (Beat r) cycle marks

module _ (junction : JunctionView) (lanes : LaneSet) (target : Target) (cycle : ℕ) where
  -- where the node behind these is a Split, it is needed
  abbrev pub IsNeededSplit : List Visit → List Mark → Node → Type 0
  IsNeededSplit before marks (Split item) = IsNeeded junction lanes target cycle before marks
  IsNeededSplit before marks (Closed walk) = ⊤
  IsNeededSplit before marks Unvisited = ⊤

  -- each Split of these nodes is needed
  abbrev pub AreNeeded : List Visit → Type 0
  AreNeeded [] = ⊤
  AreNeeded (visit ∷ before) = IsNeededSplit before visit.0 visit.1 × AreNeeded before

  -- each Split of the tree is needed for the target over the lanes
  abbrev pub IsLeanFor : List Node → Type 0
  IsLeanFor nodes = AreNeeded (visits (root_marks junction.conflicts ∷ []) nodes [])
