-- Where a second lies among the stages. Why in one of them: two conflicting groups are never green
-- together, so some second has other green groups; going back and on from a second, the last one with
-- the same groups is met within a cycle. Why in no other: its groups are those of the second, and of
-- two first seconds the later one would have the same groups before it.
use Rattle.std.specs.Prelude.{ℕ, ◌≡◌, ◌+◌, ◌%◌, ◌<◌}
use Rattle.junction_model.specs.Junction.{JunctionView}
use Rattle.junction_model.specs.Rules.{IsJunction}
use Rattle.plan_model.specs.SignalPlan.{PlanView, GreenAt}
use Rattle.plan_model.specs.Fits.{Fits}
use Rattle.stage_builder.specs.Stages.{IsStage}
use Rattle.stage_builder.specs.declared.stage.Stage.{Stage}

-- second t is one of the stage's, round the cycle
abbrev pub LiesIn : PlanView → Stage → ℕ → Type 0
LiesIn p s t = (k : ℕ) × (k < s.seconds) × ((s.first + k) % p.cycle ≡ t % p.cycle)

pub record IsInOneStage (p : PlanView) (t : ℕ) : Type 0 where
  pub stage : Stage
  pub is : IsStage p stage
  pub holds : LiesIn p stage t
  pub only : (other : Stage) → IsStage p other → LiesIn p other t → other ≡ stage

-- every second at which some group is green lies in exactly one stage
abbrev pub OneStageLaw : Type 0
OneStageLaw = (junction : JunctionView) (p : PlanView) (t i : ℕ) →
    IsJunction junction → Fits junction p → GreenAt p i t → IsInOneStage p t
