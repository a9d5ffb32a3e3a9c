-- Targets, needs, greens and plans.
use Rattle.std.specs.Prelude.{ℕ, ◌≡◌, ◌<◌, ◌≤◌, ◌⊎◌, ◌↔◌}
use Rattle.sig_base.specs.Fraction.{Fraction, IsBelow}
use Rattle.sig_base.specs.Ratio.{fraction_of}
use Rattle.sig_base.specs.declared.lane_set.LaneSet.{LaneSet}
use Rattle.sig_base.specs.declared.ratio.Ratio.{Ratio}
use Rattle.sig_base.specs.declared.target.Target.{Target}
use Rattle.sig_base.specs.declared.target.Target.TheVariants.{Reach, Beat}
use Rattle.constraint_cycles.specs.Edge.{longest_green}
use Rattle.junction_model.specs.Junction.{JunctionView}
use Rattle.junction_model.specs.Rules.{IsJunction}
use Rattle.plan_model.specs.SignalPlan.{PlanView, green_of}
use Rattle.plan_model.specs.Fits.{Fits, group_count}
use Rattle.plan_model.specs.Multiplier.{MeetsTarget, Serves}
use Rattle.least_greens.specs.Need.{IsAllowed, IsEnough, IsNeed}
use Rattle.least_greens.specs.NeedOf.{need_of}
use Rattle.least_greens.specs.Targets.{IsNotAbove}

-- there is one need
abbrev pub NeedLaw : Type 0
NeedLaw = (junction : JunctionView) (lanes : LaneSet) (target : Target) (cycle i : ℕ) → IsNeed junction lanes target cycle i (need_of junction lanes target cycle i)

abbrev pub OneNeedLaw : Type 0
OneNeedLaw = (junction : JunctionView) (lanes : LaneSet) (target : Target) (cycle i need : ℕ) → IsNeed junction lanes target cycle i need →
    need ≡ need_of junction lanes target cycle i

-- to reach a multiple stands below to beat it, and that below to reach a greater one
abbrev pub TargetOrderLaw : Type 0
TargetOrderLaw = (m n : Ratio) → IsNotAbove (Reach m) (Beat m) × (IsBelow (fraction_of m) (fraction_of n) → IsNotAbove (Beat m) (Reach n))
    × (¬ IsNotAbove (Beat m) (Reach m))

abbrev pub TransitiveLaw : Type 0
TransitiveLaw = (s t u : Target) → IsNotAbove s t → IsNotAbove t u → IsNotAbove s u

-- any two targets are ordered, and what serves the greater one serves the lesser one
abbrev pub TotalLaw : Type 0
TotalLaw = (s t : Target) → IsNotAbove s t ⊎ IsNotAbove t s

abbrev pub LesserTargetLaw : Type 0
LesserTargetLaw = (s t : Target) (own : Fraction) → IsNotAbove s t → 1 ≤ own.den → Serves t own → Serves s own

-- needs rise with the target, for every set of lanes, cycle and group
abbrev pub RisingNeedLaw : Type 0
RisingNeedLaw = (junction : JunctionView) (lanes : LaneSet) (s t : Target) (cycle i : ℕ) → 1 ≤ cycle → IsNotAbove s t →
    need_of junction lanes s cycle i ≤ need_of junction lanes t cycle i

-- a green that a group may have is enough exactly where it is at least the need
abbrev pub EnoughLaw : Type 0
EnoughLaw = (junction : JunctionView) (lanes : LaneSet) (target : Target) (cycle i green : ℕ) → 1 ≤ green → green ≤ longest_green →
    IsAllowed junction i green →
    IsEnough junction lanes target cycle i green ↔ (need_of junction lanes target cycle i ≤ green)

-- a plan meets a target over a set of lanes exactly where it fits and no green is below its group's need
abbrev pub PlanNeedLaw : Type 0
PlanNeedLaw = (junction : JunctionView) (p : PlanView) (lanes : LaneSet) (target : Target) → IsJunction junction →
    MeetsTarget junction p lanes target ↔ (Fits junction p × ((i : ℕ) → i < group_count junction → need_of junction lanes target p.cycle i ≤ green_of p i))
