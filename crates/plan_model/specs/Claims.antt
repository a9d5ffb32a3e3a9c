-- What is claimed of a plan against all other plans of its junction.
use Rattle.std.specs.Prelude.{ℕ, Some, ◌≡◌, ◌<◌, ◌≤◌, ◌↔◌}
use Rattle.sig_base.specs.Fraction.{Fraction, IsSameFraction, IsAtMost, IsBelow}
use Rattle.junction_model.specs.Junction.{JunctionView}
use Rattle.junction_model.specs.Rules.{IsJunction}
use Rattle.plan_model.specs.SignalPlan.{PlanView}
use Rattle.plan_model.specs.Fits.{Fits}
use Rattle.plan_model.specs.Multiplier.{Meets, Beats, Reaches, multiplier_at}

-- the multiplier of a plan: the least of its lanes' multipliers, over all lanes with an arrival above 0
pub record IsPlanMultiplier (junction : JunctionView) (p : PlanView) (m : Fraction) : Type 0 where
  pub positive : 1 ≤ m.den
  pub reached : (k : ℕ) × (own : Fraction) × (multiplier_at junction p k ≡ Some own) × IsSameFraction m own
  pub least : Reaches junction p m

-- it meets the multiple, no plan beats its multiplier, and none of a shorter cycle meets it
pub record IsCapacityOptimal (junction : JunctionView) (least : Fraction) (p : PlanView) : Type 0 where
  pub meets : Meets junction p least
  pub multiplier : Fraction
  pub is : IsPlanMultiplier junction p multiplier
  pub greatest : (q : PlanView) → ¬ Beats junction q multiplier
  pub shortest : (q : PlanView) → q.cycle < p.cycle → ¬ Meets junction q multiplier

-- it meets the multiple, no plan that fits has a greater multiplier, and none of a shorter cycle has as great a one
pub record HasGreatestMultiplier (junction : JunctionView) (least : Fraction) (p : PlanView) : Type 0 where
  pub meets : Meets junction p least
  pub greatest : (q : PlanView) (m n : Fraction) → Fits junction q →
      IsPlanMultiplier junction p m → IsPlanMultiplier junction q n → IsAtMost n m
  pub shortest : (q : PlanView) (m n : Fraction) → Fits junction q → q.cycle < p.cycle →
      IsPlanMultiplier junction p m → IsPlanMultiplier junction q n → IsBelow n m

-- that no plan beats it is to have the greatest multiplier
abbrev pub OptimalLaw : Type 0
OptimalLaw = (junction : JunctionView) (least : Fraction) (p : PlanView) → IsJunction junction → 1 ≤ p.cycle →
    IsCapacityOptimal junction least p ↔ HasGreatestMultiplier junction least p

-- it meets the multiple, and no plan of a shorter cycle does
pub record IsCycleOptimal (junction : JunctionView) (least : Fraction) (p : PlanView) : Type 0 where
  pub meets : Meets junction p least
  pub shortest : (q : PlanView) → q.cycle < p.cycle → ¬ Meets junction q least

abbrev pub IsInfeasible : JunctionView → Fraction → Type 0
IsInfeasible junction least = (q : PlanView) → ¬ Meets junction q least
