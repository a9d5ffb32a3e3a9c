-- Each set of lanes on which something arrives has one least multiplier, which is a ratio.
use Rattle.std.specs.Prelude.{ℕ, Some, ◌≡◌, ◌≤◌, IsBitSet, slice_get}
use Rattle.sig_base.specs.Fraction.{Fraction, IsSameFraction}
use Rattle.sig_base.specs.Ratio.{fraction_of}
use Rattle.sig_base.specs.declared.lane_set.LaneSet.{LaneSet}
use Rattle.sig_base.specs.declared.ratio.Ratio.{Ratio}
use Rattle.flow_model.specs.declared.lane.Lane.{Lane}
use Rattle.junction_model.specs.Junction.{JunctionView}
use Rattle.junction_model.specs.Rules.{IsJunction}
use Rattle.plan_model.specs.SignalPlan.{PlanView}
use Rattle.plan_model.specs.Multiplier.{IsLeastMultiplier, multiplier_at}
use Rattle.plan_model.specs.Claims.{IsPlanMultiplier}
use Rattle.plan_model.specs.AllLanes.{all_lanes}

-- some lane of the set has an arrival above 0
pub record HasFlow (junction : JunctionView) (lanes : LaneSet) : Type 0 where
  pub number : ℕ
  pub lane : Lane
  pub there : slice_get junction.lanes number ≡ Some lane
  pub chosen : IsBitSet lanes.bits number
  pub arrives : 1 ≤ lane.arrival

-- the denominator of a lane's multiplier is at least 1
abbrev pub LaneDenominatorLaw : Type 0
LaneDenominatorLaw = (junction : JunctionView) (p : PlanView) (k : ℕ) (own : Fraction) → IsJunction junction → 1 ≤ p.cycle →
    multiplier_at junction p k ≡ Some own → 1 ≤ own.den

-- a set with flow has a least multiplier, in lowest terms
abbrev pub SomeMultiplierLaw : Type 0
SomeMultiplierLaw = (junction : JunctionView) (p : PlanView) (lanes : LaneSet) → IsJunction junction → 1 ≤ p.cycle →
    HasFlow junction lanes → (r : Ratio) × IsLeastMultiplier junction p lanes (fraction_of r)

-- two least multipliers of the same set have the same value
abbrev pub OneMultiplierLaw : Type 0
OneMultiplierLaw = (junction : JunctionView) (p : PlanView) (lanes : LaneSet) (m n : Fraction) → IsJunction junction → 1 ≤ p.cycle →
    1 ≤ m.den → 1 ≤ n.den → IsLeastMultiplier junction p lanes m → IsLeastMultiplier junction p lanes n → IsSameFraction m n

-- each plan has a multiplier, in lowest terms
abbrev pub PlanMultiplierLaw : Type 0
PlanMultiplierLaw = (junction : JunctionView) (p : PlanView) → IsJunction junction → 1 ≤ p.cycle →
    (r : Ratio) × IsPlanMultiplier junction p (fraction_of r)

-- something arrives on a lane of each junction
abbrev pub AllLanesFlowLaw : Type 0
AllLanesFlowLaw = (junction : JunctionView) → IsJunction junction → HasFlow junction all_lanes
