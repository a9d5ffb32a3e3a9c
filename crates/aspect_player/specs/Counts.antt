-- What the counters of a player hold.
use Rattle.std.specs.Prelude.{ℕ, List, ◌≡◌, ◌+◌, ◌-◌, ◌%◌, ◌<◌, slice_index}
use Rattle.plan_model.specs.SignalPlan.{PlanView, start_of}
use Rattle.plan_model.specs.Fits.{group_count}
use Rattle.plan_model.specs.FittedPlan.{junction_of, fitted_plan_of}
use Rattle.plan_model.specs.declared.fitted_plan.FittedPlan.{FittedPlan}

-- for each group the seconds from second t to its next start, from 1 to the cycle
abbrev pub left_at : PlanView → ℕ → ℕ → ℕ
left_at p i t = p.cycle - (t + p.cycle - start_of p i) % p.cycle

pub record Counts (p : PlanView) (groups t : ℕ) (left : List ℕ) : Type 0 where
  pub each : (i : ℕ) → i < groups → slice_index left i ≡ left_at p i t

abbrev pub CountsOf : FittedPlan → ℕ → List ℕ → Type 0
CountsOf plan t left = Counts (fitted_plan_of plan) (group_count (junction_of plan)) t left
