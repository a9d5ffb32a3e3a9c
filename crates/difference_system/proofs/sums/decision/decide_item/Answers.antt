use Rattle.std.proofs.Common.{arith}
use Rattle.std.proofs.lemmas.Int.{ints}
use Rattle.conflict_matrix.specs.Conflicts.{matrix_of}
use Rattle.constraint_cycles.specs.Order.{order_of, marks_of}
use Rattle.difference_system.specs.Sums.{sum_of}
use Rattle.difference_system.proofs.Ends.{left_open, left_closed}
use Rattle.difference_system.proofs.IsModest.{modest}
use Rattle.difference_system.proofs.IsSystem.{IsSystem-edge_weight}
use Rattle.difference_system.proofs.sums.decision.decide_item.Goals as goal

pub greatest_round-requires-clause-sums : goal.greatest_round-requires-clause-sums
greatest_round-requires-clause-sums c =
    let m = matrix_of c.args.conflicts.now in
    let system = IsSystem-edge_weight m (order_of c.args.order.now) c.args.needs.now c.args.cycle c.args.conflicts.now.table c.args.order.now.held
    c.requires.order c.requires.needs c.requires.cycle c.root_law.ensures c.pair_laws.ensures.number c.edge_law.ensures.apart in
    rw c.groups.ensures (modest m.groups c.args.cycle _ system (sum_of c.args.sums.now) c.requires.met.sums c.requires.cycle.longest)

pub closing_walk-requires-clause-closed : goal.closing_walk-requires-clause-closed
closing_walk-requires-clause-closed c = λ starts meets.
    left_closed c.pair_laws.ensures.pair (matrix_of c.args.conflicts.now) c.args.conflicts.now.table c.args.item c.args.mark c.requires.decides c.args.needs.now c.args.cycle
    c.edge_law.ensures.asked c.edge_law.ensures.greatest c.decided_law.ensures.asked c.decided_law.ensures.others (marks_of c.args.order.now) c.requires.was_open
    (marks_of c.args.decided.now) c.requires.next c.decision_edges-edges.result c.decision_edges-edges.ensures (sum_of c.args.sums.now) c.requires.met.sums
    (c.greatest_round.result, c.greatest_round.ensures, omega (arith, ints, c.if-greatest_round-gt0.true)) starts meets.edges

pub returns : goal.returns
returns c =
    left_open c.pair_laws.ensures.pair (matrix_of c.args.conflicts.now) c.args.conflicts.now.table c.args.item c.args.mark c.requires.decides c.args.needs.now c.args.cycle
    c.edge_law.ensures.asked c.edge_law.ensures.greatest c.decided_law.ensures.asked c.decided_law.ensures.others (marks_of c.args.order.now) c.requires.was_open
    (marks_of c.args.decided.now) c.requires.next c.decision_edges-edges.result c.decision_edges-edges.ensures (sum_of c.args.sums.now) c.requires.met.sums
    (c.greatest_round.result, c.greatest_round.ensures, omega (arith, ints, c.if-greatest_round-gt0.false))

pub returns-then-greatest_round-gt0 : goal.returns-then-greatest_round-gt0
returns-then-greatest_round-gt0 c = record { circuit = c.closing_walk.ensures; unserved = λ g first. absurd (c.requires.met.served g first.within first.holds) }
