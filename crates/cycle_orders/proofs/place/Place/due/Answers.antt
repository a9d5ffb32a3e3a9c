use Rattle.std.proofs.Common.{sym}
use Rattle.constraint_cycles.specs.Order.{order_of, marks_of}
use Rattle.cycle_orders.proofs.Places.{at_hand, due_or_decided}
use Rattle.cycle_orders.proofs.Ways.{below_root}
use Rattle.cycle_orders.proofs.place.Place.due.Goals as goal

pub returns-clause-due : goal.returns-clause-due
returns-clause-due c =
    let s = c.self.inside in
    let coming = at_hand s.items s.standing (marks_of s.order) s.depth (rw (← c.self.view_is) at c.requires.some) in
    rw (← c.self.view_is) (rw coming (due_or_decided s.closure s.items (order_of s.order) s.depth s.standing c.self.invariant (rw (← c.self.view_is) at c.requires.due) c.get.result (sym c.get.ensures.value)))

pub returns-clause-below_root : goal.returns-clause-below_root
returns-clause-below_root c =
    let s = c.self.inside in
    let coming = at_hand s.items s.standing (marks_of s.order) s.depth (rw (← c.self.view_is) at c.requires.some) in
    rw (← c.self.view_is) (rw coming (below_root s.closure.conflicts s.items (marks_of s.order) s.depth c.self.invariant.way))
