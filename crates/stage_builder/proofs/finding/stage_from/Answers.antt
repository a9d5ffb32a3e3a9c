use Rattle.std.proofs.Common.{◌+◌, ◌-◌, refl, subst}
use Rattle.plan_model.specs.SignalPlan.{PlanView}
use Rattle.plan_model.specs.FittedPlan.{fitted_plan_of}
use Rattle.stage_builder.specs.Stages.{IsGreenSet}
use Rattle.stage_builder.proofs.GreenSet.{one_set}
use Rattle.stage_builder.proofs.StageFrom.{none_from_no_group, none_from_within, stage_from_run}
use Rattle.stage_builder.proofs.finding.stage_from.Goals as goal

pub returns-then-groups-eq0 : goal.returns-then-groups-eq0
returns-then-groups-eq0 c = none_from_no_group (fitted_plan_of c.args.plan.now) c.args.first c.set_at-groups.result c.set_at-groups.ensures c.if-groups-eq0.true

pub returns-then-set_before-groups : goal.returns-then-set_before-groups
returns-then-set_before-groups c =
    let p : PlanView = fitted_plan_of c.args.plan.now in
    none_from_within p c.args.first c.set_at-groups.result c.set_at-groups.ensures
    (subst (λ x. IsGreenSet p (c.args.first + p.cycle - 1) x) c.if-set_before-groups.true c.set_before.ensures)

pub run_length-seconds-requires-clause-before : goal.run_length-seconds-requires-clause-before
run_length-seconds-requires-clause-before c = λ is.
    c.if-set_before-groups.false (one_set (fitted_plan_of c.args.plan.now) _ c.set_before.result c.set_at-groups.result c.set_before.ensures is)

pub returns : goal.returns
returns c = (
  stage_from_run (fitted_plan_of c.args.plan.now) c.args.first c.set_at-groups.result c.set_at-groups.ensures c.run_length-seconds.result
      c.requires c.if-groups-eq0.false
      (λ is. c.if-set_before-groups.false (one_set (fitted_plan_of c.args.plan.now) _ c.set_before.result c.set_at-groups.result c.set_before.ensures is))
      c.run_length-seconds.ensures,
  refl,
)
