use Rattle.conflict_matrix.specs.Conflicts.{matrix_of}
use Rattle.constraint_cycles.specs.Order.{order_of}
use Rattle.difference_system.specs.Sums.{sum_of}
use Rattle.difference_system.proofs.IsModest.{modest}
use Rattle.difference_system.proofs.IsSystem.{IsSystem-edge_weight}
use Rattle.difference_system.proofs.level.grown.Goals as goal

pub with_edges-requires-clause-sums : goal.with_edges-requires-clause-sums
with_edges-requires-clause-sums c =
    let m = matrix_of c.args.conflicts.now in
    let system = IsSystem-edge_weight m (order_of c.args.below.now) c.args.needs.now c.args.cycle c.args.conflicts.now.table c.args.below.now.held
    c.requires.below c.requires.needs c.requires.cycle c.root_law.ensures c.pair_laws.ensures.number c.edge_law.ensures.apart in
    rw c.groups.ensures (modest m.groups c.args.cycle _ system (sum_of c.args.sums.now) c.requires.met.sums c.requires.cycle.longest)
