use Rattle.std.proofs.Common.{refl, subst, ◌∙◌}
use Rattle.difference_system.specs.Closure.{ClosesTop}
use Rattle.difference_system.specs.Solution.{AreLeastStarts, IfStarts, IfWalk}
use Rattle.constraint_cycles.specs.Order.{order_of}
use Rattle.cycle_orders.proofs.Places.{meets_top, closes_top, moved_meets, moved_closes, walk_closes}
use Rattle.cycle_orders.proofs.place.Place.solve.Goals as goal

pub returns-clause-least : goal.returns-clause-least
returns-clause-least c =
    let s = c.self.inside in
    let entered = rw (← c.self.view_is) at (c.enter.ensures.entered (rw c.in_default.is refl)) in
    let top = meets_top s.closure s.items (order_of s.order) s.depth s.standing c.self.invariant entered in
    let moved = moved_meets c.args.self.now c.enter.new.self c.enter.ensures.moved in
    subst (λ P. IfStarts c.answer.result (AreLeastStarts P)) (top ∙ rw (← c.self.view_is) at moved) c.answer.ensures.least

pub returns-clause-walk : goal.returns-clause-walk
returns-clause-walk c =
    let s = c.self.inside in
    let entered = rw (← c.self.view_is) at (c.enter.ensures.entered (rw c.in_default.is refl)) in
    let top = closes_top s.closure s.items (order_of s.order) s.depth s.standing c.self.invariant entered in
    let moved = moved_closes c.args.self.now c.enter.new.self c.enter.ensures.moved in
    subst (IfWalk c.answer.result) (top ∙ rw (← c.self.view_is) at moved) (walk_closes (ClosesTop s.closure) c.answer.result c.answer.ensures.walk)
