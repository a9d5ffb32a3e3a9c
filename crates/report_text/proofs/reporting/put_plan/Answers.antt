use Rattle.plan_model.specs.FittedPlan.{junction_of, fitted_plan_of}
use Rattle.report_text.proofs.PlanLines.{plan_grew}
use Rattle.report_text.proofs.reporting.put_plan.Goals as goal

pub returns : goal.returns
returns c =
    let groups = rw (c.plan.ensures.value, c.groups.ensures.value, c.junction.ensures) at c.in_ok-put_groups.ensures in
    plan_grew (junction_of c.args.plan.now) (fitted_plan_of c.args.plan.now) _ _ _ _ _ _ c.in_ok-put_cycle_lines.ensures
    c.in_ok-put_plan_reserve.ensures groups c.in_ok-put_lanes.ensures c.in_ok-put_stages.ensures
