use Rattle.plan_model.specs.FittedPlan.{junction_of, fitted_plan_of}
use Rattle.plan_stretch.proofs.room.gaps_are_long_enough.Goals as goal

pub returns-clause-spaced : goal.returns-clause-spaced
returns-clause-spaced c =
    (c.gap_law.ensures.fits (junction_of c.args.plan.now) (fitted_plan_of c.args.plan.now) (rw c.junction.ensures at c.rules.ensures)).0 c.plan.ensures.fits
