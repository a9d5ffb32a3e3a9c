use Rattle.std.proofs.Common.{length, ap, arith, ◌∙◌}
use Rattle.junction_model.specs.Junction.{JunctionView}
use Rattle.plan_model.proofs.LeastLane.{found_all}
use Rattle.plan_model.proofs.least_multiplier.multiplier.Goals as goal

pub returns-clause-none : goal.returns-clause-none
returns-clause-none c =
    let lanes = c.lanes-lane-end.ensures.value ∙ ap (λ (j : JunctionView). j.lanes) c.junction-2.ensures in
    (found_all _ _ c.args.lanes c.loop-lane.lane c.loop-lane.least (rw c.junction.ensures at c.rules.ensures) (omega (arith, ap length lanes)) c.loop-lane.invariant).0

pub returns-clause-least : goal.returns-clause-least
returns-clause-least c =
    let lanes = c.lanes-lane-end.ensures.value ∙ ap (λ (j : JunctionView). j.lanes) c.junction-2.ensures in
    (found_all _ _ c.args.lanes c.loop-lane.lane c.loop-lane.least (rw c.junction.ensures at c.rules.ensures) (omega (arith, ap length lanes)) c.loop-lane.invariant).1
