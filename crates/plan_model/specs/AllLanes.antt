-- The set of all lanes: over it, targets and least multipliers are those of the plan.
use Rattle.std.specs.Prelude.{◌≤◌, ◌↔◌}
use Rattle.sig_base.specs.Fraction.{Fraction}
use Rattle.sig_base.specs.Ratio.{fraction_of}
use Rattle.sig_base.specs.declared.lane_set.LaneSet.{LaneSet}
use Rattle.sig_base.specs.declared.ratio.Ratio.{Ratio}
use Rattle.sig_base.specs.declared.target.Target.TheVariants.{Reach, Beat}
use Rattle.junction_model.specs.Junction.{JunctionView}
use Rattle.junction_model.specs.Rules.{IsJunction}
use Rattle.plan_model.specs.SignalPlan.{PlanView}
use Rattle.plan_model.specs.Multiplier.{IsLeastMultiplier, Meets, Beats, MeetsTarget}
use Rattle.plan_model.specs.Claims.{IsPlanMultiplier}

-- 32 bits that are 1, since a junction has at most 32 lanes
abbrev pub all_lanes : LaneSet
all_lanes = record { bits = 4294967295 }

-- a plan meets a target over all lanes exactly where it meets, or beats, the target's ratio
abbrev pub AllLanesTargetLaw : Type 0
AllLanesTargetLaw = (junction : JunctionView) (p : PlanView) (r : Ratio) → IsJunction junction →
    (MeetsTarget junction p all_lanes (Reach r) ↔ Meets junction p (fraction_of r))
    × (MeetsTarget junction p all_lanes (Beat r) ↔ Beats junction p (fraction_of r))

-- the least multiplier of all lanes is the plan's
abbrev pub AllLanesMultiplierLaw : Type 0
AllLanesMultiplierLaw = (junction : JunctionView) (p : PlanView) (m : Fraction) → IsJunction junction →
    (IsLeastMultiplier junction p all_lanes m → 1 ≤ m.den → IsPlanMultiplier junction p m)
    × (IsPlanMultiplier junction p m → IsLeastMultiplier junction p all_lanes m)
