use Rattle.std.proofs.Common.{refl, sym, ◌∙◌, arith}
use Rattle.constraint_cycles.specs.Order.{order_of, marks_of}
use Rattle.constraint_cycles.specs.declared.mark.Mark.TheVariants.{First}
use Rattle.difference_system.proofs.NextOrder.{next_made}
use Rattle.cycle_orders.proofs.Places.{next_open, descended, descended_coming}
use Rattle.cycle_orders.proofs.place.Place.descend.Goals as goal

pub set-requires-clause-unfixed : goal.set-requires-clause-unfixed
set-requires-clause-unfixed c =
    let s = c.self.inside in
    let entered = rw (← c.self.view_is) at c.requires.entered in
    let free = rw (← c.self.view_is) at c.requires.free in
    c.order_law.ensures (order_of s.order) c.in-Some.item s.order.held
    (next_open s.closure s.items (order_of s.order) s.depth s.standing c.self.invariant entered c.in-Some.item (sym c.get.ensures.value ∙ c.in-Some.is) free)

pub invariant_of-self : goal.invariant_of-self
invariant_of-self c =
    let s = c.self.inside in
    let i = c.self.invariant in
    let entered = rw (← c.self.view_is) at c.requires.entered in
    let free = rw (← c.self.view_is) at c.requires.free in
    let at = sym c.get.ensures.value ∙ c.in-Some.is in
    let is_open = next_open s.closure s.items (order_of s.order) s.depth s.standing i entered c.in-Some.item at free in
    descended s.closure s.items (order_of s.order) s.depth s.standing i entered c.in-Some.item at free (order_of c.set.new.self)
    (next_made s.closure.conflicts (order_of s.order) (order_of c.set.new.self) c.in-Some.item First i.made c.set.ensures.marks c.set.ensures.fixed)
    c.set.ensures.marks
    (omega (arith, c.order_law.ensures (order_of s.order) c.in-Some.item s.order.held is_open, i.made.fixed))

pub returns : goal.returns
returns c =
    let s = c.self.inside in
    let entered = rw (← c.self.view_is) at c.requires.entered in
    let free = rw (← c.self.view_is) at c.requires.free in
    let at = sym c.get.ensures.value ∙ c.in-Some.is in
    rw (← c.self.view_is) (rw at (record {
      conflicts = refl;
      needs = refl;
      cycle = refl;
      coming = descended_coming s.closure s.items (order_of s.order) s.depth s.standing c.self.invariant entered c.in-Some.item at free (marks_of c.set.new.self) c.set.ensures.marks;
      items = refl;
    }))
