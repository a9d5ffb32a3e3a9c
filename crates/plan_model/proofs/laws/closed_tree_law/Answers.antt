use Rattle.plan_model.specs.OwnOrder.{own_marks}
use Rattle.plan_model.proofs.laws.closed_tree_law.Goals as goal

pub returns : goal.returns
returns c = λ junction p needs nodes begins has tree.
    let own = c.own_order_law.ensures.own junction p needs begins has in
    let closed = c.tree_law.ensures.full junction.conflicts needs p.cycle nodes (own_marks junction p) tree own.refines own.decided in
    c.exclusion_law.ensures junction.conflicts (own_marks junction p) needs p.cycle p.starts closed.0 own.met closed.1
