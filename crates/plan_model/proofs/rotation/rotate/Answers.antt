use Rattle.std.proofs.Common.{◌≡◌, ◌∙◌, ap, sym, subst}
use Rattle.plan_model.specs.Fits.{Fits}
use Rattle.plan_model.specs.FittedPlan.{junction_of, fitted_plan_of}
use Rattle.plan_model.specs.Plan.{plan_of}
use Rattle.plan_model.specs.Rotation.{rotated, IsAsGood}
use Rattle.plan_model.proofs.rotation.rotate.Goals as goal

pub by_law-requires : goal.by_law-requires
by_law-requires c =
    let is : plan_of c.rotated_plan.result ≡ rotated c.args.by (fitted_plan_of c.args.plan) = c.rotated_plan.ensures ∙ ap (rotated c.args.by) c.plan.ensures.value in
    let as_good = c.rotation_law.ensures.any (junction_of c.args.plan) (fitted_plan_of c.args.plan) c.args.by
    (rw c.junction.ensures at c.rules.ensures) c.plan.ensures.fits in
    rw c.junction-2.ensures (subst (λ p. Fits (junction_of c.args.plan) p) (sym is) as_good.fits)

pub returns-clause-as_good : goal.returns-clause-as_good
returns-clause-as_good c =
    let is : fitted_plan_of c.by_law.result ≡ rotated c.args.by (fitted_plan_of c.args.plan) =
    c.by_law.ensures.plan ∙ c.rotated_plan.ensures ∙ ap (rotated c.args.by) c.plan.ensures.value in
    subst (λ p. IsAsGood (junction_of c.args.plan) (fitted_plan_of c.args.plan) p) (sym is)
    (c.rotation_law.ensures.any (junction_of c.args.plan) (fitted_plan_of c.args.plan) c.args.by
    (rw c.junction.ensures at c.rules.ensures) c.plan.ensures.fits)
