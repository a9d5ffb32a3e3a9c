-- The target beside a plan of least multiplier r, by the cycle.
use Rattle.std.specs.Prelude.{ℕ, ◌≡◌, ◌<◌, ◌≤◌}
use Rattle.sig_base.specs.Ratio.{fraction_of}
use Rattle.sig_base.specs.declared.lane_set.LaneSet.{LaneSet}
use Rattle.sig_base.specs.declared.ratio.Ratio.{Ratio}
use Rattle.sig_base.specs.declared.target.Target.TheVariants.{Reach, Beat}
use Rattle.junction_model.specs.Junction.{JunctionView}
use Rattle.plan_model.specs.Fits.{Fits}
use Rattle.plan_model.specs.Multiplier.{IsLeastMultiplier, MeetsTarget}
use Rattle.plan_model.specs.SignalPlan.{PlanView}
use Rattle.least_greens.specs.ForTarget.{target_beside}
use Rattle.least_greens.specs.Targets.{IsNotAbove}

-- at a cycle below the plan's it is to reach r, which the plan does where it fits
abbrev pub ShorterBesideLaw : Type 0
ShorterBesideLaw = (junction : JunctionView) (p : PlanView) (lanes : LaneSet) (r : Ratio) (cycle : ℕ) →
    IsLeastMultiplier junction p lanes (fraction_of r) → cycle < p.cycle →
    (target_beside p.cycle r cycle ≡ Reach r) × (Fits junction p → MeetsTarget junction p lanes (target_beside p.cycle r cycle))

-- from the plan's cycle on it is to beat r, which the plan doesn't
abbrev pub LongerBesideLaw : Type 0
LongerBesideLaw = (junction : JunctionView) (p : PlanView) (lanes : LaneSet) (r : Ratio) (cycle : ℕ) →
    IsLeastMultiplier junction p lanes (fraction_of r) → p.cycle ≤ cycle →
    (target_beside p.cycle r cycle ≡ Beat r) × (¬ MeetsTarget junction p lanes (target_beside p.cycle r cycle))

-- the target of a cycle isn't above that of a longer one
abbrev pub RisingBesideLaw : Type 0
RisingBesideLaw = (plan_cycle shorter longer : ℕ) (r : Ratio) → shorter ≤ longer →
    IsNotAbove (target_beside plan_cycle r shorter) (target_beside plan_cycle r longer)
