use Rattle.plan_stretch.proofs.RoomBelow.{found_none, found_lesser}
use Rattle.plan_stretch.proofs.room.with_group.Goals as goal

pub returns-in_default : goal.returns-in_default
returns-in_default c = found_none _ _ c.args.i c.args.j c.args.least c.requires.below c.in_default.ensures

pub returns-in-Some-least : goal.returns-in-Some-least
returns-in-Some-least c =
    rw c.min.ensures (found_lesser _ _ c.args.i c.args.j c.in-Some-least.found c.in-Some.own (rw c.in-Some-least.is at c.requires.below)
    c.requires.j c.in-Some.ensures)
