-- What is known when the lanes below one are tested.
use Rattle.std.specs.Prelude.{ℕ, List, ◌<◌, ◌≤◌}
use Rattle.std.specs.List.{AllZip}
use Rattle.sig_base.specs.LaneSet.{IsIn}
use Rattle.sig_base.specs.declared.lane_set.LaneSet.{LaneSet}
use Rattle.sig_base.specs.declared.ratio.Ratio.{Ratio}
use Rattle.constraint_cycles.specs.declared.node.Node.{Node}
use Rattle.junction_model.specs.Junction.{JunctionView}
use Rattle.plan_model.specs.SignalPlan.{PlanView}
use Rattle.bottleneck_lanes.specs.Answer.{AreTrimmed}
use Rattle.bottleneck_lanes.specs.Critical.{members_below, HasArrival, HasEachArrival, AreArriving, BeatsWithout, ClosesEach, AreLean}
use Rattle.bottleneck_lanes.specs.Tested.{IsEndedTest, IsJudged, IsTestPlan}

-- a plan for a lane below n that can't be left out: the one of its test
abbrev pub IsNeededBy : JunctionView → Ratio → ℕ → ℕ → LaneSet → ℕ → PlanView → Type 0
IsNeededBy junction multiple budget n lanes k p = (k < n) × BeatsWithout junction multiple lanes k p × IsTestPlan junction multiple budget lanes k p

-- some plan shows that the lane can't be left out, where it is in the set
abbrev pub IsNeeded : JunctionView → Ratio → LaneSet → ℕ → Type 0
IsNeeded junction multiple lanes k = IsIn lanes k → (p : PlanView) × BeatsWithout junction multiple lanes k p

-- the lane is judged, where something arrives on it
abbrev pub IsJudgedIfArriving : JunctionView → Ratio → ℕ → LaneSet → ℕ → Type 0
IsJudgedIfArriving junction multiple budget lanes k = HasArrival junction k → IsJudged junction multiple budget lanes k

module _ (junction : JunctionView) (multiple : Ratio) (budget : ℕ) (given : List (List Node)) where
  -- the lanes that are left, a plan for each below n, and lean trees that show that no plan beats the multiple over them:
  -- those that were given, trimmed, or those of the last test that left a lane out
  pub record IsTestedBelow (n : ℕ) (lanes : LaneSet) (plans : List PlanView) (forest : List (List Node)) : Type 0 where
    pub arriving : AreArriving junction lanes
    pub untested : (k : ℕ) → n ≤ k → HasArrival junction k → IsIn lanes k
    pub closes : ClosesEach junction multiple lanes forest
    pub lean : AreLean junction multiple lanes forest
    pub beating : AllZip (IsNeededBy junction multiple budget n lanes) (members_below lanes n) plans
    pub needed : (k : ℕ) → k < n → IsNeeded junction multiple lanes k
    pub judged : (k : ℕ) → k < n → IsJudgedIfArriving junction multiple budget lanes k
    pub whole : HasEachArrival junction lanes → AreTrimmed junction multiple lanes given forest
    pub reduced : ¬ HasEachArrival junction lanes → IsEndedTest junction multiple budget lanes forest
