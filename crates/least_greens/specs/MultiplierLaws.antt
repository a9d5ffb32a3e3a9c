-- The least multiplier of a plan, and the targets that the plan meets or misses.
use Rattle.std.specs.Prelude.{◌≤◌}
use Rattle.sig_base.specs.Ratio.{fraction_of}
use Rattle.sig_base.specs.declared.lane_set.LaneSet.{LaneSet}
use Rattle.sig_base.specs.declared.ratio.Ratio.{Ratio}
use Rattle.sig_base.specs.declared.target.Target.{Target}
use Rattle.sig_base.specs.declared.target.Target.TheVariants.{Beat}
use Rattle.junction_model.specs.Junction.{JunctionView}
use Rattle.plan_model.specs.Multiplier.{IsLeastMultiplier, MeetsTarget}
use Rattle.plan_model.specs.SignalPlan.{PlanView}
use Rattle.plan_model.specs.Serving.{ServesEach}
use Rattle.least_greens.specs.Targets.{IsNotAbove}

-- to beat the least multiplier of a plan that misses a target isn't above that target
abbrev pub OutdoneLaw : Type 0
OutdoneLaw = (junction : JunctionView) (p : PlanView) (lanes : LaneSet) (r : Ratio) (target : Target) → 1 ≤ p.cycle →
    IsLeastMultiplier junction p lanes (fraction_of r) → ¬ ServesEach junction p lanes target → IsNotAbove (Beat r) target

-- a target that a plan meets isn't above that of beating the plan's least multiplier
abbrev pub BeatenLaw : Type 0
BeatenLaw = (junction : JunctionView) (p : PlanView) (lanes : LaneSet) (r : Ratio) (target : Target) → 1 ≤ p.cycle →
    IsLeastMultiplier junction p lanes (fraction_of r) → MeetsTarget junction p lanes target → IsNotAbove target (Beat r)

-- and that one the plan doesn't meet
abbrev pub NotBeatenLaw : Type 0
NotBeatenLaw = (junction : JunctionView) (p : PlanView) (lanes : LaneSet) (r : Ratio) → IsLeastMultiplier junction p lanes (fraction_of r) →
    ¬ MeetsTarget junction p lanes (Beat r)
