use Rattle.std.proofs.Common.{◌∙◌, ap, arith, set}
use Rattle.conflict_matrix.specs.Conflicts.{matrix_of}
use Rattle.constraint_cycles.specs.Order.{order_of}
use Rattle.difference_system.proofs.Levels.{room_left, levels_more}
use Rattle.difference_system.proofs.NextOrder.{next_made}
use Rattle.difference_system.proofs.closure.Closure.push_closed.Goals as goal

pub unreachable-requires : goal.unreachable-requires
unreachable-requires c =
    let was_open = rw (← c.self.view_is) at c.requires.was_open in
    let table = c.self.inside.conflicts.table in
    let room = room_left _ _ _ _ _ c.self.invariant c.args.item (omega (arith, c.pair_laws.ensures.few _ table, table.links.linkable.few)) was_open in
    omega (arith, room, c.in-Err.ensures.full, c.self.inside.levels.ok.0)

pub invariant_of-self : goal.invariant_of-self
invariant_of-self c =
    let was_open = rw (← c.self.view_is) at c.requires.was_open in
    let closed = rw (← c.self.view_is) at c.requires.closed in
    let top = rw (← c.self.view_is) at c.top.ensures in
    let marks = c.order_with-order.ensures.marks ∙ ap (λ ms. set ms c.args.item c.args.mark) top.marks in
    let m = matrix_of c.self.inside.conflicts in
    let made = next_made m (order_of c.top.result.now.order) (order_of c.order_with-order.result) c.args.item c.args.mark top.level.made c.order_with-order.ensures.marks c.order_with-order.ensures.fixed in
    rw c.in-Ok.ensures.items
    (levels_more _ _ _ _ _ c.self.invariant _ c.args.item c.args.mark _ was_open c.requires.decides (ap (λ ms. (ms, c.args.item)) marks)
    (record { made = made; summed = rw marks closed }) c.push.ensures.capacity)
