use Rattle.least_greens.specs.NeedClosure.{IsQuestion-prop}
use Rattle.least_greens.specs.NeedRule.{rule_junction}
use Rattle.cycle_orders.proofs.order_search.search.Goals as goal

pub searched-requires-clause-answers : goal.searched-requires-clause-answers
searched-requires-clause-answers g c = λ target cycle group question. (
  (IsQuestion-prop (rule_junction c.args.rule.now) target cycle group, rw c.junction.ensures at question),
  λ given is. rw (c.junction.ensures, c.lanes.ensures) is.1,
)
