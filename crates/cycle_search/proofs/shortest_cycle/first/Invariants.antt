use Rattle.std.proofs.Common.{◌≡◌, ◌+◌, None}
use Rattle.cycle_orders.specs.Forest.{visited_in}
use Rattle.cycle_orders.specs.Joined.{IsJoined}
use Rattle.cycle_search.proofs.shortest_cycle.first.Given as goal

abbrev pub invariant-loop-cycle : goal.invariant-loop-cycle
invariant-loop-cycle g l = record {
  joined : IsJoined l.junction l.least None l.least l.cycle l.forest;
  counted : visited_in l.forest + l.left ≡ l.fn.budget;
}
