use Rattle.std.proofs.Common.{◌≡◌, slice_index_or, arith, rules}
use Rattle.plan_model.specs.SignalPlan.{green_of}
use Rattle.plan_model.specs.FittedPlan.{fitted_plan_of}
use Rattle.plan_model.proofs.GreenBelowCycle.{green_most}
use Rattle.plan_model.proofs.effective_green.green_at.Goals as goal

pub returns-clause-most : goal.returns-clause-most
returns-clause-most c =
    let same : slice_index_or c.greens.result.now c.args.group 0 ≡ green_of (fitted_plan_of c.args.plan.now) c.args.group = search rules in
    omega (arith, same, green_most _ _ c.args.group (rw c.junction.ensures at c.rules.ensures) c.plan.ensures.fits c.requires)
