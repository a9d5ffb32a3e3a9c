use Rattle.std.proofs.Common.{ℕ, ◌+◌, ◌<◌}
use Rattle.plan_model.specs.FittedPlan.{fitted_plan_of}
use Rattle.stage_builder.specs.Stages.{IsGreenSet}
use Rattle.stage_builder.proofs.finding.run_length.Given as goal

abbrev pub invariant-loop-seconds : goal.invariant-loop-seconds
invariant-loop-seconds l = (k : ℕ) → k < l.seconds → IsGreenSet (fitted_plan_of l.plan) (l.first + k) l.set
