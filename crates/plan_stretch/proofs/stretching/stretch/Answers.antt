use Rattle.plan_model.specs.Plan.{plan_of}
use Rattle.plan_model.specs.FittedPlan.{junction_of, fitted_plan_of}
use Rattle.plan_stretch.proofs.stretching.stretch.Goals as goal

pub by_law-requires : goal.by_law-requires
by_law-requires c =
    let law = c.stretch_law.ensures (junction_of c.args.plan) (fitted_plan_of c.args.plan) (plan_of c.stretched_plan.result)
    (rw c.junction.ensures at c.rules.ensures) c.args.plan.fitted c.stretched_plan.ensures in
    rw c.junction-2.ensures law.0.fits

pub returns-clause-stretched : goal.returns-clause-stretched
returns-clause-stretched c =
    let law = c.stretch_law.ensures (junction_of c.args.plan) (fitted_plan_of c.args.plan) (plan_of c.stretched_plan.result)
    (rw c.junction.ensures at c.rules.ensures) c.args.plan.fitted c.stretched_plan.ensures in
    rw c.by_law.ensures.plan law.0

pub returns-clause-no_worse : goal.returns-clause-no_worse
returns-clause-no_worse c =
    let law = c.stretch_law.ensures (junction_of c.args.plan) (fitted_plan_of c.args.plan) (plan_of c.stretched_plan.result)
    (rw c.junction.ensures at c.rules.ensures) c.args.plan.fitted c.stretched_plan.ensures in
    rw c.by_law.ensures.plan law.1
