use Rattle.plan_model.specs.FittedPlan.{fitted_plan_of}
use Rattle.stage_builder.specs.SoFar.{AreStagesBefore}
use Rattle.stage_builder.proofs.finding.stages.Given as goal

abbrev pub invariant-loop-first : goal.invariant-loop-first
invariant-loop-first l = AreStagesBefore (fitted_plan_of l.plan) l.first l.found
