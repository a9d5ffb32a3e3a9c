use Rattle.std.proofs.Common.{◌≡◌, ◌+◌}
use Rattle.std.specs.Prelude.{IfSome}
use Rattle.cycle_orders.specs.Answer.{plan_in}
use Rattle.cycle_orders.specs.Forest.{IsFoundAmong, visited_in}
use Rattle.cycle_orders.specs.Joined.{IsJoined}
use Rattle.cycle_orders.specs.JunctionAnswer.{IsPlanOf}
use Rattle.capacity_search.proofs.greatest.greatest.Given as goal

abbrev pub invariant-loop-cycle : goal.invariant-loop-cycle
invariant-loop-cycle g l = record {
  plan : IfSome l.best (IsPlanOf l.junction l.fn.least);
  found : IfSome (plan_in l.best) (IsFoundAmong l.junction l.forest);
  joined : IsJoined l.junction l.fn.least (plan_in l.best) l.multiple l.cycle l.forest;
  counted : visited_in l.forest + l.left ≡ l.fn.budget;
}
