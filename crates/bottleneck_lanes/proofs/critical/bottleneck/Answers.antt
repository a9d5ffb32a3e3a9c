use Rattle.plan_model.specs.FittedPlan.{junction_of, fitted_plan_of}
use Rattle.bottleneck_lanes.proofs.Needs.{same_closed}
use Rattle.bottleneck_lanes.proofs.Steps.{for_plan}
use Rattle.bottleneck_lanes.proofs.critical.bottleneck.Goals as goal

pub critical_lanes-requires : goal.critical_lanes-requires
critical_lanes-requires c =
    let rules = rw c.junction.ensures at c.rules.ensures in
    rw c.junction-2.ensures (same_closed c.rising_law.ensures.cycle (junction_of c.args.best.now) (fitted_plan_of c.args.best.now) c.args.branches.now
    c.plan_multiplier.result rules c.plan.ensures.fits c.requires c.plan_multiplier.ensures)

pub returns-clause-answer : goal.returns-clause-answer
returns-clause-answer c = for_plan (junction_of c.args.best.now) (fitted_plan_of c.args.best.now) c.plan_multiplier.result c.args.budget c.args.branches.now c.plan_multiplier.ensures
    c.critical_lanes.result (rw c.junction-2.ensures at c.critical_lanes.ensures.answer)
