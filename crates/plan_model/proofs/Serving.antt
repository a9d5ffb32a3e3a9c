-- Why a longer green serves what a shorter one does.
use Rattle.std.proofs.Common.{ℕ, ◌≡◌, ◌*◌, ◌≤◌, arith}
use Rattle.std.specs.Prelude.{Some}
use Rattle.std.proofs.Math.Nat.{mul-le-mul_left, mul-le-mul_right}
use Rattle.std.proofs.lemmas.Option.{slice_get_within}
use Rattle.sig_base.specs.Fraction.{Fraction, IsAtMost, IsBelow}
use Rattle.sig_base.specs.declared.target.Target.{Target}
use Rattle.sig_base.specs.declared.target.Target.TheVariants.{Reach, Beat}
use Rattle.sig_base.specs.Ratio.{fraction_of}
use Rattle.sig_base.specs.declared.group_times.GroupTimes.{GroupTimes}
use Rattle.flow_model.specs.declared.lane.Lane.{Lane}
use Rattle.flow_model.specs.Lane.{effective_green}
use Rattle.junction_model.specs.declared.group.Group.{Group}
use Rattle.junction_model.specs.Junction.{JunctionView}
use Rattle.plan_model.specs.SignalPlan.{PlanView, green_of}
use Rattle.plan_model.specs.Multiplier.{Serves, multiplier_at}
use Rattle.plan_model.specs.Serving.{LaneServingLaw, ServingLaw, IsAsLong, multiplier_under}
use Rattle.plan_model.proofs.LaneMultiplier.{IsOfLane, lane_of, multiplier_of}

more_served : (lane : Lane) (times : GroupTimes) (shorter longer den : ℕ) → shorter ≤ longer →
    lane.limit * lane.saturation * effective_green times shorter * den ≤ lane.limit * lane.saturation * effective_green times longer * den
more_served lane times shorter longer den h =
    let more : effective_green times shorter ≤ effective_green times longer = omega arith in
    mul-le-mul_right den (mul-le-mul_left (lane.limit * lane.saturation) more)

pub lane_serving_law : LaneServingLaw
lane_serving_law lane times cycle shorter longer m h =
    let more = more_served lane times shorter longer m.den h in
    (λ served. omega (arith, served, more), λ served. omega (arith, served, more))

-- the second fraction serves what the first one does
abbrev pub IsServedMore : Fraction → Fraction → Type 0
IsServedMore own more = (m : Fraction) → (IsAtMost m own → IsAtMost m more) × (IsBelow m own → IsBelow m more)

on_lane : (junction : JunctionView) (p q : PlanView) (k : ℕ) (lane : Lane) (group : Group) (more : Fraction) → IsAsLong junction p q →
    IsOfLane junction q k lane group more → (own : Fraction) × (multiplier_at junction p k ≡ Some own) × IsServedMore own more
on_lane junction p q k lane group more long of =
    let longer : green_of p lane.group ≤ green_of q lane.group = long.greens lane.group (slice_get_within _ _ _ of.group_there) in
    let at_p : multiplier_under lane group.times p.cycle (green_of q lane.group) ≡ more = rw (← long.cycle) of.value in (
      multiplier_under lane group.times p.cycle (green_of p lane.group),
      multiplier_of junction p k lane group of.lane_there of.group_there of.arrives,
      λ m. rw (← at_p) (lane_serving_law lane group.times p.cycle (green_of p lane.group) (green_of q lane.group) m longer),
    )

pub same_lane : (junction : JunctionView) (p q : PlanView) (k : ℕ) (more : Fraction) → IsAsLong junction p q → multiplier_at junction q k ≡ Some more →
    (own : Fraction) × (multiplier_at junction p k ≡ Some own) × IsServedMore own more
same_lane junction p q k more long found =
    let of = lane_of junction q k more found in on_lane junction p q k of.0 of.1 more long of.2

serves_more : (target : Target) (own more : Fraction) → IsServedMore own more → Serves target own → Serves target more
serves_more (Reach r) own more h = (h (fraction_of r)).0
serves_more (Beat r) own more h = (h (fraction_of r)).1

pub serving_law : ServingLaw
serving_law junction p q long = (
  λ m reaches k more found.
      let own = same_lane junction p q k more long found in (own.2 m).0 (reaches k own.0 own.1),
  λ lanes target serves k more counts.
      let own = same_lane junction p q k more long counts.multiplier in
      serves_more target own.0 more own.2 (serves k own.0 (record { chosen = counts.chosen; multiplier = own.1 })),
)
