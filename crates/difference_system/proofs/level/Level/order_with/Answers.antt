use Rattle.constraint_cycles.specs.Order.{order_of}
use Rattle.difference_system.proofs.level.Level.order_with.Goals as goal

pub set-requires-clause-unfixed : goal.set-requires-clause-unfixed
set-requires-clause-unfixed c = c.order_law.ensures (order_of c.args.self.now.order) c.args.item c.args.self.now.order.held c.requires.was_open
