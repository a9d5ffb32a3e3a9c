use Rattle.cycle_orders.proofs.place.Place.go_on.Goals as goal
use Rattle.cycle_orders.proofs.place.Place.go_on.Goals.{then-more, else-more}

pub invariant_of-self : goal.invariant_of-self
invariant_of-self c =
    let t = c.turn-more.ensures in
    elim c.if-more.branch [
      | then-more w ↦ rw w.self-is (record { made = rw t.conflicts t.made; within = t.within; way = rw t.conflicts t.way; orders = t.above })
      | else-more w ↦ rw w.self-is (record { made = rw t.conflicts t.made; within = t.within; way = rw t.conflicts t.way; orders = t.above })
    ]
