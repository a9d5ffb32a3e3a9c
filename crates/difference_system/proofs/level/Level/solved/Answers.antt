use Rattle.conflict_matrix.specs.Conflicts.{matrix_of}
use Rattle.constraint_cycles.specs.Edge.{edge_weight}
use Rattle.constraint_cycles.specs.Order.{order_of}
use Rattle.difference_system.specs.Sums.{sum_of}
use Rattle.difference_system.proofs.IsSystem.{IsSystem-edge_weight}
use Rattle.difference_system.proofs.IsModest.{row_start}
use Rattle.difference_system.proofs.LeastStarts.{least_served}
use Rattle.difference_system.proofs.level.Level.solved.Goals as goal

pub row_starts-requires-clause-row : goal.row_starts-requires-clause-row
row_starts-requires-clause-row c =
    let m = matrix_of c.args.conflicts.now in
    let o = order_of c.args.self.now.order in
    let system = IsSystem-edge_weight m o c.args.needs.now c.args.cycle c.args.conflicts.now.table c.args.self.now.order.held c.requires.level.made c.requires.needs c.requires.cycle
    c.root_law.ensures c.pair_laws.ensures.number c.edge_law.ensures.apart in
    let summed = rw c.in-None.is at c.requires.level.summed in
    rw c.groups.ensures (row_start m.groups c.args.cycle (edge_weight m o.marks c.args.needs.now c.args.cycle) system (sum_of c.args.self.now.sums) summed.sums c.requires.cycle.longest)

pub returns-in-None-clause-least : goal.returns-in-None-clause-least
returns-in-None-clause-least c =
    let m = matrix_of c.args.conflicts.now in
    let o = order_of c.args.self.now.order in
    let system = IsSystem-edge_weight m o c.args.needs.now c.args.cycle c.args.conflicts.now.table c.args.self.now.order.held c.requires.level.made c.requires.needs c.requires.cycle
    c.root_law.ensures c.pair_laws.ensures.number c.edge_law.ensures.apart in
    let summed = rw c.in-None.is at c.requires.level.summed in
    least_served m o.marks c.args.needs.now c.args.cycle summed.served c.row_starts.result
    ((rw c.groups.ensures at c.row_starts.ensures.least) c.args.cycle (edge_weight m o.marks c.args.needs.now c.args.cycle) system summed.sums)

pub returns-in-None-clause-within : goal.returns-in-None-clause-within
returns-in-None-clause-within c =
    let m = matrix_of c.args.conflicts.now in
    let o = order_of c.args.self.now.order in
    let system = IsSystem-edge_weight m o c.args.needs.now c.args.cycle c.args.conflicts.now.table c.args.self.now.order.held c.requires.level.made c.requires.needs c.requires.cycle
    c.root_law.ensures c.pair_laws.ensures.number c.edge_law.ensures.apart in
    let summed = rw c.in-None.is at c.requires.level.summed in
    (rw c.groups.ensures at c.row_starts.ensures.within) c.args.cycle (edge_weight m o.marks c.args.needs.now c.args.cycle) system summed.sums

pub returns-in-None-clause-exactly : goal.returns-in-None-clause-exactly
returns-in-None-clause-exactly c = (λ _. (c.row_starts.result, (returns-in-None-clause-least c).solution), λ _. tt)

pub returns-in-Some-clause-exactly : goal.returns-in-Some-clause-exactly
returns-in-Some-clause-exactly c =
    let closed = rw c.in-Some.is at c.requires.level.summed in
    (λ none. absurd none, λ some. c.exclusion_law.ensures (matrix_of c.args.conflicts.now) (order_of c.args.self.now.order).marks c.args.needs.now c.args.cycle some.0 c.in-Some.walk some.1.meets closed.circuit.closes)
