use Rattle.plan_model.proofs.OneMark.{own_order_law, one_mark_law}
use Rattle.plan_model.proofs.laws.own_order_law.Goals as goal

pub returns-clause-own : goal.returns-clause-own
returns-clause-own c = own_order_law c.pair_laws.ensures.pair c.edge_law.ensures.asked c.edge_law.ensures.apart

pub returns-clause-one : goal.returns-clause-one
returns-clause-one c = one_mark_law c.pair_laws.ensures.pair c.edge_law.ensures.asked c.edge_law.ensures.greatest c.edge_law.ensures.apart
