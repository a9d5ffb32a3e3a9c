use Rattle.junction_model.specs.Rules.{IsJunction}
use Rattle.plan_model.specs.FittedPlan.{junction_of, fitted_plan_of}
use Rattle.plan_model.proofs.least_multiplier.plan_multiplier.Goals as goal

pub returns : goal.returns
returns c =
    let rules : IsJunction (junction_of c.args.plan.now) = rw c.junction.ensures at c.rules.ensures in
    (c.all_lanes_law.ensures.multiplier (junction_of c.args.plan.now) (fitted_plan_of c.args.plan.now) _ rules).0
    (rw c.all_lanes_law.ensures.set at c.in-Some.ensures.least) c.in-Some.multiplier.lowest.positive
