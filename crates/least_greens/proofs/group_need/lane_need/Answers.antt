use Rattle.std.proofs.lemmas.Bool.{both_ways}
use Rattle.least_greens.proofs.LaneNeeds.{asked_need, free_need}
use Rattle.least_greens.proofs.group_need.lane_need.Goals as goal

pub returns-then-is_asked : goal.returns-then-is_asked
returns-then-is_asked c =
    let a = c.args in
    asked_need a.junction.now a.lanes a.target a.cycle a.group a.lane c.least_green.result c.group_at-own.result.now c.lane_at.result.now
    c.group_at-own.ensures.value (rw c.lane_at.ensures.value at (c.is_asked.ensures.0 c.if-is_asked.true)) c.least_green.ensures

pub returns-else-is_asked : goal.returns-else-is_asked
returns-else-is_asked c =
    let a = c.args in
    free_need a.junction.now a.lanes a.target a.cycle a.group a.lane c.group_at-own.result.now c.group_at-own.ensures.value
    (λ lane asked. both_ways _ c.if-is_asked.false (c.is_asked.ensures.1 (rw asked.there asked)))
