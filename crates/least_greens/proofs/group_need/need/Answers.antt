use Rattle.std.proofs.Common.{length, ap, arith}
use Rattle.least_greens.proofs.LaneNeeds.{no_lane, with_lane, allowed_need, past_need}
use Rattle.least_greens.proofs.group_need.need.Goals as goal

pub loop-lane-init : goal.loop-lane-init
loop-lane-init c =
    let a = c.args in
    no_lane a.junction.now a.lanes a.target a.cycle a.group c.group_at.result.now c.group_at.ensures.value
    (omega (arith, c.group_at.ensures.rules.times.min_green))

pub loop-lane-preserved : goal.loop-lane-preserved
loop-lane-preserved c =
    let a = c.args in
    rw c.max-need.ensures
    (with_lane a.junction.now a.lanes a.target a.cycle a.group c.loop-lane.lane c.loop-lane.need c.lane_need.result c.loop-lane.invariant c.lane_need.ensures)

pub returns-then-need-times-clause-need : goal.returns-then-need-times-clause-need
returns-then-need-times-clause-need c =
    let a = c.args in
    allowed_need a.junction.now a.lanes a.target a.cycle a.group c.loop-lane.lane c.loop-lane.need c.group_at.result.now c.group_at.ensures.rules.times.shown c.group_at.ensures.value
    (omega (arith, ap length c.lanes-lane-end.ensures.value)) c.if-need-times.true c.loop-lane.invariant

pub returns-then-need-times-clause-value : goal.returns-then-need-times-clause-value
returns-then-need-times-clause-value c = c.need_law.ensures.one _ _ _ _ _ _ (returns-then-need-times-clause-need c)

pub returns-else-need-times-clause-need : goal.returns-else-need-times-clause-need
returns-else-need-times-clause-need c =
    let a = c.args in
    past_need a.junction.now a.lanes a.target a.cycle a.group c.loop-lane.lane c.loop-lane.need c.group_at.result.now c.group_at.ensures.value c.if-need-times.false c.loop-lane.invariant

pub returns-else-need-times-clause-value : goal.returns-else-need-times-clause-value
returns-else-need-times-clause-value c = c.need_law.ensures.one _ _ _ _ _ _ (returns-else-need-times-clause-need c)
