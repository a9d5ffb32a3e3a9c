-- Green groups and stages so far.
use Rattle.std.specs.Prelude.{ℕ, List, Option, ◌≡◌, ◌≢◌, ◌+◌, ◌<◌, ◌↔◌, All, AllPairs, Contains, IsBitSet, MatchOption}
use Rattle.plan_model.specs.SignalPlan.{PlanView, GreenAt}
use Rattle.stage_builder.specs.Stages.{IsGreenSet, IsStage}
use Rattle.stage_builder.specs.declared.stage.Stage.{Stage}

-- the green ones of the groups below n
abbrev pub IsGreenSetBelow : PlanView → ℕ → ℕ → ℕ → Type 0
IsGreenSetBelow p n t set = (k : ℕ) → IsBitSet set k ↔ ((k < n) × GreenAt p k t)

-- the set is that of so many seconds and not of the next
pub record IsRun (p : PlanView) (start set seconds : ℕ) : Type 0 where
  pub short : seconds < p.cycle
  pub same : (k : ℕ) → k < seconds → IsGreenSet p (start + k) set
  pub after : ¬ IsGreenSet p (start + seconds) set

-- the stage of this first second, or none where there is none
abbrev pub IsStageFromOrNone : PlanView → ℕ → Option Stage → Type 0
IsStageFromOrNone p start answer =
    MatchOption answer ((s : Stage) → IsStage p s → s.first ≢ start)
    (λ s. IsStage p s × (s.first ≡ start))

-- the stages whose first second is below n
pub record AreStagesBefore (p : PlanView) (n : ℕ) (stages : List Stage) : Type 0 where
  pub each : All (λ s. IsStage p s × (s.first < n)) stages
  pub all : (s : Stage) → IsStage p s → s.first < n → Contains stages s
  pub rising : AllPairs (λ (a b : Stage). a.first < b.first) stages
