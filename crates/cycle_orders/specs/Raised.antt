-- What raising the target at a full order comes to.
use Rattle.std.specs.Prelude.{ℕ, zero, suc, Some, ◌≡◌, ◌+◌, ◌-◌}
use Rattle.sig_base.specs.declared.target.Target.{Target}
use Rattle.constraint_cycles.specs.Edge.{unserved_need}
use Rattle.least_greens.specs.NeedOf.{need_of}
use Rattle.least_greens.specs.Targets.{IsNotAbove}
use Rattle.plan_model.specs.FittedPlan.{fitted_plan_of}
use Rattle.plan_model.specs.Fits.{group_count}
use Rattle.cycle_orders.specs.Answer.{IsBestPlan, plan_in}
use Rattle.cycle_orders.specs.Place.{PlaceView, ClosesHere, order_at}
use Rattle.cycle_orders.specs.Search.{SearchView, IsRunning, IsAtOwnRatio}
use Rattle.cycle_orders.specs.Standing.{IsPlaceFor}
use Rattle.cycle_orders.specs.declared.raising.Raised.{Raised}

-- the sum of the numbers below n
abbrev pub total : (ℕ → ℕ) → ℕ → ℕ
total f zero = 0
total f (suc n) = total f n + f n

-- by how many seconds all needs together can still rise
abbrev pub needs_left : SearchView → Target → ℕ
needs_left s target = total (λ g. unserved_need - need_of s.junction s.lanes target s.cycle g) (group_count s.junction)

-- the plan is one for the search, that of the order at hand for reaching its own multiplier; the second target is to beat
-- it, and a walk closes the order for that
pub record IsRaised (s : SearchView) (target : Target) (old new : PlaceView) (r : Raised) : Type 0 where
  pub risen : IsNotAbove target r.target
  pub plan : IsBestPlan s r.plan
  pub own : IsAtOwnRatio s.junction s.lanes (order_at new) (fitted_plan_of r.plan)
  pub running : IsRunning s (plan_in (Some r.plan)) r.target
  pub place : IsPlaceFor s r.target new
  pub coming : new.coming ≡ old.coming
  pub closes : ClosesHere new r.walk
