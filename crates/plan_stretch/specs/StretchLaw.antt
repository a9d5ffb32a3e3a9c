-- What a stretched plan keeps: no start moves, so gaps and links stay; and each green ends an
-- intergreen before the next start of every conflicting group, so the plan fits.
use Rattle.sig_base.specs.Fraction.{Fraction, IsAtMost}
use Rattle.sig_base.specs.declared.lane_set.LaneSet.{LaneSet}
use Rattle.sig_base.specs.declared.target.Target.{Target}
use Rattle.junction_model.specs.Junction.{JunctionView}
use Rattle.junction_model.specs.Rules.{IsJunction}
use Rattle.plan_model.specs.SignalPlan.{PlanView}
use Rattle.plan_model.specs.Fits.{Fits}
use Rattle.plan_model.specs.Multiplier.{IsLeastMultiplier, Meets, MeetsTarget}
use Rattle.plan_model.specs.Serving.{IsAsLong}
use Rattle.plan_stretch.specs.Stretch.{IsStretched, IsStretchOf}

-- over this set of lanes the second plan's multiplier isn't less
abbrev pub HasNoLess : JunctionView → PlanView → PlanView → LaneSet → Type 0
HasNoLess junction p q lanes = (m n : Fraction) →
    IsLeastMultiplier junction p lanes m → IsLeastMultiplier junction q lanes n → IsAtMost m n

-- no green of the second plan is shorter, its multiplier isn't less over any set of lanes, and it
-- meets what the first one meets
pub record IsNoWorse (junction : JunctionView) (p q : PlanView) : Type 0 where
  pub greens : IsAsLong junction p q
  pub multiplier : (lanes : LaneSet) → HasNoLess junction p q lanes
  pub meets : (m : Fraction) → Meets junction p m → Meets junction q m
  pub meets_target : (lanes : LaneSet) (target : Target) →
      MeetsTarget junction p lanes target → MeetsTarget junction q lanes target

abbrev pub StretchLaw : Type 0
StretchLaw = (junction : JunctionView) (p q : PlanView) →
    IsJunction junction → Fits junction p → IsStretchOf junction p q →
    IsStretched junction q × IsNoWorse junction p q
