use Rattle.std.proofs.Common.{subst}
use Rattle.conflict_matrix.specs.Conflicts.{matrix_of}
use Rattle.constraint_cycles.specs.Order.{marks_of}
use Rattle.constraint_cycles.specs.Starts.{MeetsEdges}
use Rattle.constraint_cycles.specs.Walk.{IsPositiveCycle}
use Rattle.difference_system.specs.Solution.{IfStarts, IfWalk, AreLeastStarts, AreStartsWithin, IsClosingCircuit}
use Rattle.difference_system.proofs.LeastStarts.{starts_exactly, starts_served, walk_served, closing_alone}
use Rattle.difference_system.proofs.solution.solve.Goals as goal

pub returns-in-Some-clause-walk : goal.returns-in-Some-clause-walk
returns-in-Some-clause-walk c =
    let is = rw c.unwrap.ensures at c.new.ensures.value in
    let first = c.in-Some.ensures in
    rw is (closing_alone (matrix_of c.args.conflicts.now) (marks_of c.args.order.now) c.args.needs.now c.args.cycle c.in-Some.group first.holds)

pub returns-clause-least : goal.returns-clause-least
returns-clause-least c =
    let m = matrix_of c.args.conflicts.now in
    let marks = marks_of c.args.order.now in
    starts_served m marks c.args.needs.now c.args.cycle c.in_default.ensures c.settled.result
    (subst (λ edge. IfStarts c.settled.result (AreLeastStarts (MeetsEdges edge))) c.new-2.ensures.edges c.settled.ensures.least)

pub returns-clause-walk : goal.returns-clause-walk
returns-clause-walk c =
    let m = matrix_of c.args.conflicts.now in
    let marks = marks_of c.args.order.now in
    walk_served m marks c.args.needs.now c.args.cycle c.in_default.ensures c.settled.result (λ u. c.edge_law.ensures.apart m marks c.args.needs.now c.args.cycle u c.args.conflicts.now.table)
    (subst (λ edge. IfWalk c.settled.result (IsClosingCircuit (IsPositiveCycle edge))) c.new-2.ensures.edges c.settled.ensures.walk)

pub returns-clause-exactly : goal.returns-clause-exactly
returns-clause-exactly c =
    let m = matrix_of c.args.conflicts.now in
    let marks = marks_of c.args.order.now in
    starts_exactly m marks c.args.needs.now c.args.cycle c.settled.result (c.exclusion_law.ensures m marks c.args.needs.now c.args.cycle)
    (returns-clause-least c) (returns-clause-walk c)

pub returns-clause-within : goal.returns-clause-within
returns-clause-within c =
    let groups = subst (λ groups. IfStarts c.settled.result (AreStartsWithin groups c.new-2.result.cycle)) c.new-2.ensures.groups c.settled.ensures.within in
    subst (λ cycle. IfStarts c.settled.result (AreStartsWithin (matrix_of c.args.conflicts.now).groups cycle)) c.new-2.ensures.cycle groups
