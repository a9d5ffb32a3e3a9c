use Rattle.std.proofs.Common.{refl}
use Rattle.plan_model.specs.Fits.{Fits}
use Rattle.plan_model.specs.Plan.{plan_of}
use Rattle.plan_model.proofs.Faultless.{faultless_fits}
use Rattle.plan_model.proofs.fit.fits.Goals as goal

pub returns : goal.returns
returns c =
    let fit : Fits c.args.junction.now (plan_of c.args.plan.now) =
    faultless_fits _ _ c.requires (c.if-not-is_within_limits.ensures.0 refl) c.in_default.ensures
    c.in_default-first_short_green.ensures c.in_default-first_clash.ensures c.in_default-first_long_green.ensures c.in_default-first_broken_link.ensures in
    record { exactly = (λ ok. fit, λ fits. refl); answer = fit }
