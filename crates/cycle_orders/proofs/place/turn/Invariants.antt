use Rattle.std.proofs.Common.{◌≡◌, ◌≤◌, length}
use Rattle.constraint_cycles.specs.Marks.{IsOrderFor}
use Rattle.constraint_cycles.specs.Order.{order_of, marks_of}
use Rattle.cycle_orders.specs.Way.{IsWay, orders_above, orders_waiting}
use Rattle.cycle_orders.proofs.place.turn.Given as goal

abbrev pub invariant-loop-depth : goal.invariant-loop-depth
invariant-loop-depth l = record {
  made : IsOrderFor l.fn.closure.conflicts (order_of l.order);
  way : IsWay l.items l.fn.closure.conflicts (marks_of l.order) l.depth;
  within : l.depth ≤ length l.items;
  waiting : orders_waiting l.items (marks_of l.fn.order) l.fn.depth ≡ orders_waiting l.items (marks_of l.order) l.depth;
  above : l.closure.orders ≡ orders_above l.items (marks_of l.order) l.depth;
  needs : l.closure.needs ≡ l.fn.closure.needs;
  cycle : l.closure.cycle ≡ l.fn.closure.cycle;
  conflicts : l.closure.conflicts ≡ l.fn.closure.conflicts;
}

abbrev pub decreases-loop-depth : goal.decreases-loop-depth
decreases-loop-depth l = l.depth
