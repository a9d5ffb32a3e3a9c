use Rattle.std.proofs.Common.{◌≡◌, ◌+◌}
use Rattle.cycle_orders.specs.Session.{HasUnvisited, KeepsVisited}
use Rattle.cycle_orders.proofs.session.Session.advance.Given as goal

abbrev pub invariant-loop-node : goal.invariant-loop-node
invariant-loop-node g l = record {
  search : l.self.search ≡ l.fn.self.search;
  count : l.self.visited ≡ l.fn.self.visited + l._node;
  past : KeepsVisited l.fn.self l.self;
  still : l._node ≡ 0 → l.self ≡ l.fn.self;
  over : ¬ HasUnvisited l.fn.self → l._node ≡ 0;
}
