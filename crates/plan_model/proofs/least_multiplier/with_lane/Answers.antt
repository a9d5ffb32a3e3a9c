use Rattle.plan_model.proofs.LeastLane.{found_none, found_first, found_lesser}
use Rattle.plan_model.proofs.least_multiplier.with_lane.Goals as goal

pub returns-in_default : goal.returns-in_default
returns-in_default c = found_none _ _ c.args.lanes c.args.lane c.args.least c.requires.below c.in_default.ensures

pub returns-in-Some-least : goal.returns-in-Some-least
returns-in-Some-least c =
    found_lesser _ _ c.args.lanes c.args.lane c.in-Some-least.found c.in-Some.own c.lesser.result (rw c.in-Some-least.is at c.requires.below)
    c.in-Some.ensures c.lesser.ensures.first c.lesser.ensures.second c.lesser.ensures.either

pub returns-in-None : goal.returns-in-None
returns-in-None c = found_first _ _ c.args.lanes c.args.lane c.in-Some.own (rw c.in-None.is at c.requires.below) c.in-Some.ensures
