-- What an answer on the critical lanes means.
use Rattle.std.specs.Prelude.{ℕ, List, Some, ⊤, ◌≡◌, ◌+◌, ◌<◌, slice_get}
use Rattle.std.specs.List.{AllZip}
use Rattle.sig_base.specs.Ratio.{fraction_of}
use Rattle.sig_base.specs.declared.lane_set.LaneSet.{LaneSet}
use Rattle.sig_base.specs.declared.ratio.Ratio.{Ratio}
use Rattle.sig_base.specs.declared.target.Target.TheVariants.{Beat}
use Rattle.constraint_cycles.specs.declared.node.Node.{Node}
use Rattle.junction_model.specs.Junction.{JunctionView}
use Rattle.plan_model.specs.AllLanes.{all_lanes}
use Rattle.plan_model.specs.Claims.{IsPlanMultiplier}
use Rattle.plan_model.specs.SignalPlan.{PlanView}
use Rattle.cycle_orders.specs.Trimmed.{IsTrimmed}
use Rattle.bottleneck_lanes.specs.Critical.{members, HasArrival, HasEachArrival, IsIrreducible, ClosesEach, IsShownBy}
use Rattle.bottleneck_lanes.specs.Tested.{IsEndedTest, IsStoppedTest, IsJudged, IsTestPlan}
use Rattle.bottleneck_lanes.specs.declared.answer.BottleAnswer.{BottleAnswer}
use Rattle.bottleneck_lanes.specs.declared.answer.BottleAnswer.TheVariants.{Found, Stopped}

-- each tree of the second forest is what trimming leaves of the one of the first, for beating the multiple over the lanes
abbrev pub AreTrimmed : JunctionView → Ratio → LaneSet → List (List Node) → List (List Node) → Type 0
AreTrimmed junction multiple lanes given forest = (k : ℕ) (older nodes : List Node) → slice_get given k ≡ Some older → slice_get forest k ≡ Some nodes →
    IsTrimmed junction lanes (Beat multiple) (junction.least_cycle + k) older nodes

-- no plan has a greater multiplier than this one: each cycle is closed for beating its multiplier over all lanes
pub record ShowsBest (junction : JunctionView) (p : PlanView) (forest : List (List Node)) : Type 0 where
  pub multiple : Ratio
  pub is : IsPlanMultiplier junction p (fraction_of multiple)
  pub closes : ClosesEach junction multiple all_lanes forest

module _ (junction : JunctionView) (multiple : Ratio) (budget : ℕ) (given : List (List Node)) where
  -- an irreducible set and what shows it: a lane was left out exactly where no plan beat the multiple over what was left
  -- beside it, and each lane's plan is that of its own test; the trees are the given ones, trimmed, where no lane was left out, and else those of a test within its budget
  pub record IsFound (lanes : LaneSet) (plans : List PlanView) (forest : List (List Node)) : Type 0 where
    pub irreducible : IsIrreducible junction multiple lanes
    pub shown : IsShownBy junction multiple lanes plans forest
    pub judged : (k : ℕ) → HasArrival junction k → IsJudged junction multiple budget lanes k
    pub tested : AllZip (IsTestPlan junction multiple budget lanes) (members lanes) plans
    pub whole : HasEachArrival junction lanes → AreTrimmed junction multiple lanes given forest
    pub reduced : ¬ HasEachArrival junction lanes → IsEndedTest junction multiple budget lanes forest

  -- a stopped test, and the lanes below the one under test are judged
  pub record IsStop (lanes : LaneSet) (lane : ℕ) (forest : List (List Node)) : Type 0 where
    pub test : IsStoppedTest junction multiple budget lanes lane forest
    pub judged : (k : ℕ) → k < lane → HasArrival junction k → IsJudged junction multiple budget lanes k

  abbrev pub IsAnswerFor : BottleAnswer → Type 0
  IsAnswerFor (Found c) = IsFound c.lanes c.plans c.branches
  IsAnswerFor (Stopped lanes lane forest) = IsStop lanes lane forest

-- the answer for a best plan: for its multiplier
pub record IsBottleneck (junction : JunctionView) (p : PlanView) (budget : ℕ) (given : List (List Node)) (answer : BottleAnswer) : Type 0 where
  pub multiple : Ratio
  pub is : IsPlanMultiplier junction p (fraction_of multiple)
  pub is_answer : IsAnswerFor junction multiple budget given answer

abbrev pub IsStopped : BottleAnswer → Type 0
IsStopped (Found c) = ⊥
IsStopped (Stopped lanes lane forest) = ⊤
