use Rattle.plan_model.specs.FittedPlan.{junction_of, fitted_plan_of}
use Rattle.stage_builder.specs.SoFar.{AreStagesBefore}
use Rattle.std.proofs.Common.{sym, subst}
use Rattle.stage_builder.proofs.GreenSet.{starts_in_cycle}
use Rattle.stage_builder.proofs.StageBefore.{skip_second, push_stage}
use Rattle.stage_builder.proofs.finding.stages.Goals as goal

pub loop-first-preserved-in_default : goal.loop-first-preserved-in_default
loop-first-preserved-in_default c =
    skip_second (fitted_plan_of c.args.plan.now) c.loop-first.first c.loop-first.found c.loop-first.invariant c.in_default.ensures

pub loop-first-preserved : goal.loop-first-preserved
loop-first-preserved c =
    subst (AreStagesBefore (fitted_plan_of c.args.plan.now) _) (sym c.in_ok-push.ensures.ok)
    (push_stage (fitted_plan_of c.args.plan.now) c.loop-first.first c.loop-first.found c.loop-first.invariant c.in-Some.stage
    (starts_in_cycle (junction_of c.args.plan.now) (fitted_plan_of c.args.plan.now) (rw c.junction.ensures at c.rules.ensures) c.args.plan.now.fitted)
    c.in-Some.ensures.0 c.in-Some.ensures.1)
