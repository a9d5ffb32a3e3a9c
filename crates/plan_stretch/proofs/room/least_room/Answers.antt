use Rattle.std.proofs.Common.{length, ap, ◌∙◌, arith}
use Rattle.junction_model.specs.Junction.{JunctionView}
use Rattle.plan_stretch.proofs.RoomBelow.{some_found, found_all}
use Rattle.plan_stretch.proofs.room.least_room.Goals as goal

pub unreachable-requires : goal.unreachable-requires
unreachable-requires c =
    let groups = c.groups-j-end.ensures.value ∙ ap (λ (j : JunctionView). j.groups) c.junction.ensures in
    some_found _ c.args.i c.loop-j.j (rw c.junction-2.ensures at c.rules.ensures) c.requires (omega (arith, ap length groups)) (rw c.in-None.is at c.loop-j.invariant)

pub returns : goal.returns
returns c =
    let groups = c.groups-j-end.ensures.value ∙ ap (λ (j : JunctionView). j.groups) c.junction.ensures in
    found_all _ _ c.args.i c.in-Some.room c.loop-j.j (omega (arith, ap length groups)) (rw c.in-Some.is at c.loop-j.invariant)
