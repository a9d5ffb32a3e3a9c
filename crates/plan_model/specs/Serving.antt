-- What a green serves, every longer one serves too.
use Rattle.std.specs.Prelude.{ℕ, ◌≡◌, ◌<◌, ◌≤◌}
use Rattle.sig_base.specs.Fraction.{Fraction, IsAtMost, IsBelow}
use Rattle.sig_base.specs.declared.group_times.GroupTimes.{GroupTimes}
use Rattle.sig_base.specs.declared.lane_set.LaneSet.{LaneSet}
use Rattle.sig_base.specs.declared.target.Target.{Target}
use Rattle.flow_model.specs.declared.lane.Lane.{Lane}
use Rattle.flow_model.specs.Lane.{effective_green, lane_multiplier_of}
use Rattle.junction_model.specs.Junction.{JunctionView}
use Rattle.plan_model.specs.SignalPlan.{PlanView, green_of}
use Rattle.plan_model.specs.Fits.{group_count}
use Rattle.plan_model.specs.Multiplier.{CountsAs, Reaches, Serves}

-- the lane's multiplier under a green of its group
abbrev pub multiplier_under : Lane → GroupTimes → ℕ → ℕ → Fraction
multiplier_under lane times cycle green = lane_multiplier_of lane (effective_green times green) cycle

abbrev pub LaneServingLaw : Type 0
LaneServingLaw = (lane : Lane) (times : GroupTimes) (cycle shorter longer : ℕ) (m : Fraction) → shorter ≤ longer →
    (IsAtMost m (multiplier_under lane times cycle shorter) → IsAtMost m (multiplier_under lane times cycle longer))
    × (IsBelow m (multiplier_under lane times cycle shorter) → IsBelow m (multiplier_under lane times cycle longer))

-- the same cycle, and no green shorter than in p
pub record IsAsLong (junction : JunctionView) (p q : PlanView) : Type 0 where
  pub cycle : q.cycle ≡ p.cycle
  pub greens : (i : ℕ) → i < group_count junction → green_of p i ≤ green_of q i

-- every lane of the set serves the target
abbrev pub ServesEach : JunctionView → PlanView → LaneSet → Target → Type 0
ServesEach junction p lanes target = (k : ℕ) (own : Fraction) → CountsAs junction p lanes k own → Serves target own

abbrev pub ServingLaw : Type 0
ServingLaw = (junction : JunctionView) (p q : PlanView) → IsAsLong junction p q →
    ((m : Fraction) → Reaches junction p m → Reaches junction q m)
    × ((lanes : LaneSet) (target : Target) → ServesEach junction p lanes target → ServesEach junction q lanes target)
