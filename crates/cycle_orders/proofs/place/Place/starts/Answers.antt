use Rattle.std.proofs.Common.{sym, subst}
use Rattle.constraint_cycles.specs.Order.{order_of}
use Rattle.difference_system.specs.Solution.{IsSolvable, AreLeastStarts}
use Rattle.cycle_orders.proofs.Places.{meets_top}
use Rattle.cycle_orders.proofs.place.Place.starts.Goals as goal

pub unreachable-requires : goal.unreachable-requires
unreachable-requires c =
    let s = c.self.inside in
    let entered = rw (← c.self.view_is) at c.requires.entered in
    let solvable = rw (← c.self.view_is) at c.requires.solvable in
    let top = meets_top s.closure s.items (order_of s.order) s.depth s.standing c.self.invariant entered in
    rw c.in-Walk.is at (c.answer.ensures.exactly.1 (subst IsSolvable (sym top) solvable))

pub returns-clause-least : goal.returns-clause-least
returns-clause-least c =
    let s = c.self.inside in
    let entered = rw (← c.self.view_is) at c.requires.entered in
    let top = meets_top s.closure s.items (order_of s.order) s.depth s.standing c.self.invariant entered in
    rw (← c.self.view_is) (subst (λ P. AreLeastStarts P c.in-Starts.starts) top c.in-Starts.ensures.least)
