-- Plans whose starts are all moved by the same seconds round the cycle.
use Rattle.std.specs.Prelude.{ℕ, ◌≡◌, ◌+◌, ◌-◌, ◌%◌, ◌<◌, map}
use Rattle.sig_base.specs.Fraction.{Fraction}
use Rattle.sig_base.specs.declared.lane_set.LaneSet.{LaneSet}
use Rattle.sig_base.specs.declared.target.Target.{Target}
use Rattle.junction_model.specs.Junction.{JunctionView}
use Rattle.junction_model.specs.Rules.{IsJunction}
use Rattle.plan_model.specs.SignalPlan.{PlanView, start_of}
use Rattle.plan_model.specs.Fits.{Fits, group_count}
use Rattle.plan_model.specs.Multiplier.{Meets, MeetsTarget, multiplier_at}
use Rattle.plan_model.specs.Gap.{gap}

-- the plan whose starts come `by` seconds later
abbrev pub rotated : ℕ → PlanView → PlanView
rotated by p = record { cycle = p.cycle; starts = map (λ start. (start + by) % p.cycle) p.starts; greens = p.greens }

-- the second plan fits too, with the same gaps and multipliers, and meets what the first one meets
pub record IsAsGood (junction : JunctionView) (p q : PlanView) : Type 0 where
  pub fits : Fits junction q
  pub gaps : (i j : ℕ) → i < group_count junction → j < group_count junction → gap q i j ≡ gap p i j
  pub multipliers : (k : ℕ) → multiplier_at junction q k ≡ multiplier_at junction p k
  pub meets : (m : Fraction) → Meets junction p m → Meets junction q m
  pub meets_target : (lanes : LaneSet) (target : Target) → MeetsTarget junction p lanes target → MeetsTarget junction q lanes target

abbrev pub RotationLaw : Type 0
RotationLaw = (junction : JunctionView) (p : PlanView) (by : ℕ) → IsJunction junction → Fits junction p → IsAsGood junction p (rotated by p)

-- rotated by what its first group lacks of a cycle, a plan that fits starts with that group
abbrev pub FirstStartLaw : Type 0
FirstStartLaw = (junction : JunctionView) (p : PlanView) → IsJunction junction → Fits junction p →
    start_of (rotated (p.cycle - start_of p 0) p) 0 ≡ 0
