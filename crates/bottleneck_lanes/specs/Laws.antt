-- What is true of all sets of lanes.
use Rattle.std.specs.Prelude.{ℕ, List, ◌≡◌, ◌+◌, ◌<◌, ◌↔◌}
use Rattle.sig_base.specs.Fraction.{IsBelow}
use Rattle.sig_base.specs.LaneSet.{IsIn, without}
use Rattle.sig_base.specs.Ratio.{fraction_of}
use Rattle.sig_base.specs.declared.lane_set.LaneSet.{LaneSet}
use Rattle.sig_base.specs.declared.ratio.Ratio.{Ratio}
use Rattle.constraint_cycles.specs.declared.node.Node.{Node}
use Rattle.junction_model.specs.Junction.{JunctionView}
use Rattle.junction_model.specs.Rules.{IsJunction}
use Rattle.least_greens.specs.ForTarget.{target_beside, ClosesCycleFor}
use Rattle.plan_model.specs.AllLanes.{all_lanes}
use Rattle.plan_model.specs.Claims.{IsPlanMultiplier}
use Rattle.plan_model.specs.Fits.{Fits}
use Rattle.plan_model.specs.Multiplier.{IsLeastMultiplier}
use Rattle.plan_model.specs.MultiplierLaws.{HasFlow}
use Rattle.plan_model.specs.SignalPlan.{PlanView}
use Rattle.cycle_orders.specs.Forest.{EachTreeOf, HasTreesBelow}
use Rattle.bottleneck_lanes.specs.Answer.{ShowsBest}
use Rattle.bottleneck_lanes.specs.Critical.{AreArriving, BeatsOver, IsUnbeaten, ClosesEach}

-- a plan that fits beats a multiple over a set exactly where its least multiplier over the set is greater
abbrev pub GreaterLaw : Type 0
GreaterLaw = (junction : JunctionView) (multiple least : Ratio) (lanes : LaneSet) (p : PlanView) → IsJunction junction → Fits junction p →
    IsLeastMultiplier junction p lanes (fraction_of least) →
    BeatsOver junction multiple lanes p ↔ IsBelow (fraction_of multiple) (fraction_of least)

-- where nothing arrives on a lane of the set, each plan that fits beats every multiple over it
abbrev pub FreeLaw : Type 0
FreeLaw = (junction : JunctionView) (multiple : Ratio) (lanes : LaneSet) (p : PlanView) → Fits junction p → ¬ HasFlow junction lanes →
    BeatsOver junction multiple lanes p

-- a plan that beats a multiple over a set does so over every smaller one
abbrev pub SmallerSetLaw : Type 0
SmallerSetLaw = (junction : JunctionView) (multiple : Ratio) (lanes rest : LaneSet) (p : PlanView) → IsJunction junction →
    ((k : ℕ) → k < 32 → IsIn rest k → IsIn lanes k) → BeatsOver junction multiple lanes p → BeatsOver junction multiple rest p

-- no lane with an arrival is left beside a lane exactly where the set has this lane alone
abbrev pub LastLaneLaw : Type 0
LastLaneLaw = (junction : JunctionView) (lanes : LaneSet) (k : ℕ) → IsJunction junction → AreArriving junction lanes → IsIn lanes k →
    (¬ HasFlow junction (without lanes k)) ↔ ((j : ℕ) → IsIn lanes j → j ≡ k)

-- where each cycle is closed for beating a multiple over a set, no plan does so
abbrev pub UnbeatenLaw : Type 0
UnbeatenLaw = (junction : JunctionView) (multiple : Ratio) (lanes : LaneSet) (forest : List (List Node)) → IsJunction junction →
    ClosesEach junction multiple lanes forest → IsUnbeaten junction multiple lanes

-- trees that close each cycle for its target beside a plan show that none beats the plan's multiplier: to reach it isn't
-- above to beat it
abbrev pub BesideLaw : Type 0
BesideLaw = (junction : JunctionView) (p : PlanView) (multiple : Ratio) (forest : List (List Node)) → IsJunction junction →
    IsPlanMultiplier junction p (fraction_of multiple) → HasTreesBelow junction (junction.greatest_cycle + 1) forest →
    EachTreeOf junction (λ cycle. ClosesCycleFor junction all_lanes (target_beside p.cycle multiple cycle) cycle) forest → ShowsBest junction p forest
