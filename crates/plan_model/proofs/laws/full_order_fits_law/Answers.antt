use Rattle.plan_model.proofs.FullOrder.{full_order_fits_law}
use Rattle.plan_model.proofs.laws.full_order_fits_law.Goals as goal

pub returns : goal.returns
returns c = full_order_fits_law c.edge_law.ensures.greatest c.pair_laws.ensures.number
