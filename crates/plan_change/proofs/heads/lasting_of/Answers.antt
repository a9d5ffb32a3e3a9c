use Rattle.std.proofs.Common.{◌≡◌, get_or, arith, ap}
use Rattle.plan_model.specs.Plan.{plan_of}
use Rattle.plan_model.specs.SignalPlan.{green_of}
use Rattle.plan_model.proofs.GreenBelowCycle.{green_most}
use Rattle.plan_change.proofs.heads.lasting_of.Goals as goal

pub overflow_add-result : goal.overflow_add-result
overflow_add-result c =
    let green : get_or c.greens.result.now c.args.group 0 ≡ green_of (plan_of c.args.plan.now) c.args.group = ap (λ xs. get_or xs c.args.group 0) c.greens.ensures in
    omega (arith, green, c.times_of.ensures.amber, green_most c.args.junction.now (plan_of c.args.plan.now) c.args.group c.rules.ensures c.requires.fits c.requires.group)

pub returns-clause-most : goal.returns-clause-most
returns-clause-most c =
    let green : get_or c.greens.result.now c.args.group 0 ≡ green_of (plan_of c.args.plan.now) c.args.group = ap (λ xs. get_or xs c.args.group 0) c.greens.ensures in
    omega (arith, green, c.times_of.ensures.amber, green_most c.args.junction.now (plan_of c.args.plan.now) c.args.group c.rules.ensures c.requires.fits c.requires.group)
