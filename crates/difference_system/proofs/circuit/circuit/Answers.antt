use Rattle.difference_system.proofs.IsClosingCircuit.{rest-is_cut, cut-walk, cut-distinct, IsDistinct-moved}
use Rattle.difference_system.proofs.circuit.circuit.Goals as goal

pub from_lowest-requires : goal.from_lowest-requires
from_lowest-requires c =
    let trail = c.args.trail.now in
    let same = c.groups-groups.ensures.value in
    record { walk = rw (rest-is_cut trail _ c.args.first _ same c.place_of.ensures.cut) (cut-walk trail _ c.args.first _ same c.place_of.ensures.cut c.groups-groups.ensures.few c.requires.within c.requires.several) }

pub returns-clause-once : goal.returns-clause-once
returns-clause-once c =
    let trail = c.args.trail.now in
    let same = c.groups-groups.ensures.value in
    IsDistinct-moved _ _ c.from_lowest.ensures.moved (rw (rest-is_cut trail _ c.args.first _ same c.place_of.ensures.cut) (cut-distinct trail _ c.args.first _ same c.place_of.ensures.cut c.requires.once))
