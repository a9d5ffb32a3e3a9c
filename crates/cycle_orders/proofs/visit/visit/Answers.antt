use Rattle.cycle_orders.proofs.Places.{due_free}
use Rattle.cycle_orders.specs.Place.{order_at}
use Rattle.cycle_orders.proofs.visit.visit.Goals as goal

pub due-requires-clause-due : goal.due-requires-clause-due
due-requires-clause-due c = rw (c.enter.ensures.moved.conflicts, c.enter.ensures.moved.items) c.requires.due

pub descend-requires-clause-free : goal.descend-requires-clause-free
descend-requires-clause-free c = rw (← c.due.ensures.value) (due_free c.enter.new.self.conflicts (order_at c.enter.new.self) c.due.result c.due.ensures.due)
