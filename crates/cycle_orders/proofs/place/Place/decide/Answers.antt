use Rattle.std.proofs.Common.{◌≡◌, ◌≤◌, ◌++◌, ◌∷◌, [], length, length-take, refl, sym, subst, subst₂, ap, ◌∙◌, arith, drop, slice_index_or}
use Rattle.constraint_cycles.specs.Order.{order_of, marks_of}
use Rattle.constraint_cycles.specs.Tree.{orders_below}
use Rattle.constraint_cycles.specs.declared.node.Node.TheVariants.{Split}
use Rattle.cycle_orders.specs.Due.{IsOpenItem}
use Rattle.cycle_orders.specs.Place.{IsPlace, coming_at}
use Rattle.cycle_orders.proofs.Places.{here_at, led, led_next, led_place, led_coming, led_room}
use Rattle.cycle_orders.proofs.place.Place.decide.Goals as goal

pub push-requires : goal.push-requires
push-requires c =
    let s = c.self.inside in
    let entered = rw (← c.self.view_is) at c.requires.entered in
    let free = rw (← c.self.view_is) at c.requires.free in
    let place = subst (IsPlace s.closure s.items (order_of s.order) s.depth) entered c.self.invariant in
    let is_open = subst (λ marks. IsOpenItem marks c.args.item) (here_at s.closure s.items (order_of s.order) s.depth s.standing c.self.invariant entered) free in
    let few : length (marks_of s.order) ≤ 132 = omega (arith, length-take s.order.count s.order.marks, s.order.few) in
    let room = led_room s.closure s.items (order_of s.order) s.depth place c.args.item few is_open in
    omega (arith, room, ap length c.keep.ensures, length-take s.depth s.items)

pub invariant_of-self : goal.invariant_of-self
invariant_of-self c =
    let s = c.self.inside in
    let entered = rw (← c.self.view_is) at c.requires.entered in
    let place = subst (IsPlace s.closure s.items (order_of s.order) s.depth) entered c.self.invariant in
    let is = c.push.ensures ∙ ap (λ l. l ++ c.args.item ∷ []) c.keep.ensures in
    subst₂ (λ items standing. IsPlace s.closure items (order_of s.order) s.depth standing) (sym is) (sym entered)
    (led_place s.closure s.items (order_of s.order) s.depth place c.args.item)

pub descend-requires-clause-next : goal.descend-requires-clause-next
descend-requires-clause-next c =
    let s = c.self.inside in
    let entered = rw (← c.self.view_is) at c.requires.entered in
    let place = subst (IsPlace s.closure s.items (order_of s.order) s.depth) entered c.self.invariant in
    let is = c.push.ensures ∙ ap (λ l. l ++ c.args.item ∷ []) c.keep.ensures in
    let next = led_next s.closure s.items (order_of s.order) s.depth place c.args.item in
    rw (is, next) refl

pub descend-requires-clause-free : goal.descend-requires-clause-free
descend-requires-clause-free c =
    let s = c.self.inside in
    let entered = rw (← c.self.view_is) at c.requires.entered in
    let free = rw (← c.self.view_is) at c.requires.free in
    let place = subst (IsPlace s.closure s.items (order_of s.order) s.depth) entered c.self.invariant in
    let is_open = subst (λ marks. IsOpenItem marks c.args.item) (here_at s.closure s.items (order_of s.order) s.depth s.standing c.self.invariant entered) free in
    let is = c.push.ensures ∙ ap (λ l. l ++ c.args.item ∷ []) c.keep.ensures in
    let next = led_next s.closure s.items (order_of s.order) s.depth place c.args.item in
    rw (is, next, entered) is_open

pub returns : goal.returns
returns c =
    let s = c.self.inside in
    let entered = rw (← c.self.view_is) at c.requires.entered in
    let place = subst (IsPlace s.closure s.items (order_of s.order) s.depth) entered c.self.invariant in
    let is = c.push.ensures ∙ ap (λ l. l ++ c.args.item ∷ []) c.keep.ensures in
    let next = led_next s.closure s.items (order_of s.order) s.depth place c.args.item in
    let moved = rw next at (rw is at c.descend.ensures) in
    let same : coming_at (led s.closure s.items (order_of s.order) s.depth place c.args.item) s.standing (marks_of s.order) s.depth ≡ coming_at s.items s.standing (marks_of s.order) s.depth =
    rw entered (led_coming s.closure s.items (order_of s.order) s.depth place c.args.item) in
    rw (← c.self.view_is) (record {
      conflicts = moved.conflicts;
      needs = moved.needs;
      cycle = moved.cycle;
      coming = moved.coming ∙ ap (λ orders. orders_below (slice_index_or orders 0 []) (Split c.args.item) ++ drop 1 orders) same;
      items = refl;
    })
