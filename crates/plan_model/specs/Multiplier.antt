-- The multiplier of a plan, and the flow multiples that a plan meets: made after the reserve capacity of
-- Allsop's SIGCAP, with the lane as the unit.
use Rattle.std.specs.Prelude.{ℕ, Option, None, Some, ◌≡◌, ◌==◌, if◌then◌else◌, option_and_then, IsBitSet, slice_get}
use Rattle.sig_base.specs.Fraction.{Fraction, IsSameFraction, IsAtMost, IsBelow}
use Rattle.sig_base.specs.Ratio.{fraction_of}
use Rattle.sig_base.specs.declared.lane_set.LaneSet.{LaneSet}
use Rattle.sig_base.specs.declared.target.Target.{Target}
use Rattle.sig_base.specs.declared.target.Target.TheVariants.{Reach, Beat}
use Rattle.flow_model.specs.declared.lane.Lane.{Lane}
use Rattle.flow_model.specs.Lane.{effective_green, lane_multiplier_of}
use Rattle.junction_model.specs.declared.group.Group.{Group}
use Rattle.junction_model.specs.Junction.{JunctionView}
use Rattle.plan_model.specs.SignalPlan.{PlanView, green_of}
use Rattle.plan_model.specs.Fits.{Fits}

-- the multiplier of a lane under its group's green; none where nothing arrives
abbrev pub lane_multiplier_under : PlanView → Lane → Group → Option Fraction
lane_multiplier_under p lane group = (if lane.arrival == 0 then None else
    Some (lane_multiplier_of lane (effective_green group.times (green_of p lane.group)) p.cycle))

-- the multiplier of lane k
abbrev pub multiplier_at : JunctionView → PlanView → ℕ → Option Fraction
multiplier_at junction p k =
    option_and_then (λ (lane : Lane). option_and_then (lane_multiplier_under p lane) (slice_get junction.groups lane.group))
    (slice_get junction.lanes k)

-- the lane is in the set, and has this multiplier
pub record CountsAs (junction : JunctionView) (p : PlanView) (lanes : LaneSet) (k : ℕ) (own : Fraction) : Type 0 where
  pub chosen : IsBitSet lanes.bits k
  pub multiplier : multiplier_at junction p k ≡ Some own

-- the least multiplier of the set's lanes with an arrival above 0
pub record IsLeastMultiplier (junction : JunctionView) (p : PlanView) (lanes : LaneSet) (m : Fraction) : Type 0 where
  pub reached : (k : ℕ) × (own : Fraction) × CountsAs junction p lanes k own × IsSameFraction m own
  pub least : (k : ℕ) (own : Fraction) → CountsAs junction p lanes k own → IsAtMost m own

-- each lane with an arrival above 0 has at least the multiple
abbrev pub Reaches : JunctionView → PlanView → Fraction → Type 0
Reaches junction p m = (k : ℕ) (own : Fraction) → multiplier_at junction p k ≡ Some own → IsAtMost m own

-- a plan meets a multiple where it fits and its multiplier is at least that
pub record Meets (junction : JunctionView) (p : PlanView) (m : Fraction) : Type 0 where
  pub fits : Fits junction p
  pub reaches : Reaches junction p m

-- a plan beats a multiple where it fits and its multiplier is greater than that
pub record Beats (junction : JunctionView) (p : PlanView) (m : Fraction) : Type 0 where
  pub fits : Fits junction p
  pub exceeds : (k : ℕ) (own : Fraction) → multiplier_at junction p k ≡ Some own → IsBelow m own

-- a lane's multiplier is at least the target's ratio, or greater than it
abbrev pub Serves : Target → Fraction → Type 0
Serves (Reach r) own = IsAtMost (fraction_of r) own
Serves (Beat r) own = IsBelow (fraction_of r) own

-- a plan meets a target over a set of lanes where it fits and serves each of them
pub record MeetsTarget (junction : JunctionView) (p : PlanView) (lanes : LaneSet) (target : Target) : Type 0 where
  pub fits : Fits junction p
  pub serves : (k : ℕ) (own : Fraction) → CountsAs junction p lanes k own → Serves target own
