use Rattle.std.proofs.Common.{subst}
use Rattle.plan_model.specs.FittedPlan.{junction_of, fitted_plan_of}
use Rattle.report_text.specs.Pieces.{GrewBy}
use Rattle.report_text.specs.LaneLine.{IsLaneLine}
use Rattle.report_text.proofs.Lines.{next_line}
use Rattle.report_text.proofs.lane_lines.put_lanes.Goals as goal

pub loop-lane-preserved : goal.loop-lane-preserved
loop-lane-preserved c =
    let IsLine = IsLaneLine (junction_of c.args.plan.now) (fitted_plan_of c.args.plan.now) in
    let is = rw (c.lanes-lane-items.ensures.value, c.junction-2.ensures) at c.lane-item.is in
    let inside = rw (c.lanes-lane-items.ensures.value, c.junction-2.ensures) at c.loop-lane-test.true in
    let line = subst (λ lane. GrewBy (IsLine lane) c.loop-lane.text.items c.put_lane.new.text.items) is c.in_ok-put_lane.ensures in
    next_line IsLine _ c.loop-lane.lane-index c.lane-item.result _ _ _ inside c.loop-lane.invariant line
