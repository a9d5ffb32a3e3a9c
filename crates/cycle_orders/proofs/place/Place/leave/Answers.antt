use Rattle.std.proofs.Common.{rules, ◌≡◌}
use Rattle.constraint_cycles.specs.Order.{order_of}
use Rattle.cycle_orders.specs.declared.place.Standing.TheVariants.{At}
use Rattle.cycle_orders.proofs.Places.{entered_long}
use Rattle.cycle_orders.proofs.place.Place.leave.Goals as goal

pub undo-requires : goal.undo-requires
undo-requires c =
    let s = c.self.inside in
    let entered : s.standing ≡ At = search rules in
    entered_long s.closure s.items (order_of s.order) s.depth s.standing c.self.invariant entered c.if-self-gt0.true
