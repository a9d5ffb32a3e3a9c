-- The stages of a plan, second by second.
use Rattle.std.specs.Prelude.{ℕ, List, ◌≢◌, ◌+◌, ◌-◌, ◌<◌, ◌≤◌, ◌↔◌, All, AllPairs, Contains, IsBitSet}
use Rattle.plan_model.specs.SignalPlan.{PlanView, GreenAt}
use Rattle.stage_builder.specs.declared.stage.Stage.{Stage}

-- the groups that are green at second t: bit k is 1 exactly where group k is
abbrev pub IsGreenSet : PlanView → ℕ → ℕ → Type 0
IsGreenSet p t set = (k : ℕ) → IsBitSet set k ↔ GreenAt p k t

-- from its first second on the same groups are green, of which there are some; a second earlier, and
-- a second after its last, others are
pub record IsStage (p : PlanView) (s : Stage) : Type 0 where
  pub first : s.first < p.cycle
  pub some : 1 ≤ s.seconds
  pub short : s.seconds < p.cycle
  pub nonempty : s.groups ≢ 0
  pub same : (k : ℕ) → k < s.seconds → IsGreenSet p (s.first + k) s.groups
  pub before : ¬ IsGreenSet p (s.first + p.cycle - 1) s.groups
  pub after : ¬ IsGreenSet p (s.first + s.seconds) s.groups

-- all stages of the plan, by rising first second
pub record AreStages (p : PlanView) (stages : List Stage) : Type 0 where
  pub each : All (IsStage p) stages
  pub all : (s : Stage) → IsStage p s → Contains stages s
  pub rising : AllPairs (λ (a b : Stage). a.first < b.first) stages
