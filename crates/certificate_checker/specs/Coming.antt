-- What contracts see of the orders that are still to come.
use Rattle.std.specs.Prelude.{List, map, reverse, take}
use Rattle.constraint_cycles.specs.Marks.{OrderView}
use Rattle.constraint_cycles.specs.Order.{order_of}
use Rattle.certificate_checker.specs.declared.coming.Coming.{Coming}

-- the next one first
abbrev pub coming_of : Coming → List OrderView
coming_of c = map order_of (reverse (take c.len c.orders))
