use Rattle.std.proofs.Common.{◌≡◌, ap, rules}
use Rattle.std.specs.Prelude.{Some}
use Rattle.std.specs.Option.{option_map}
use Rattle.sig_base.specs.Fraction.{IsBelow}
use Rattle.sig_base.specs.Ratio.{fraction_of}
use Rattle.plan_model.specs.Plan.{plan_of}
use Rattle.plan_model.specs.Fits.{Fits}
use Rattle.plan_model.specs.Claims.{IsPlanMultiplier}
use Rattle.plan_certificate.specs.Certificate.{certificate_of}
use Rattle.certificate_checker.specs.CertificateRules.{LacksItsPlan}
use Rattle.certificate_checker.proofs.PlanRules.{has_its_plan}
use Rattle.certificate_checker.proofs.plan_rules.plan_rules.Goals as goal

pub returns : goal.returns
returns c =
    let junction = c.args.junction.now in
    let certificate = certificate_of c.args.certificate.now in
    let p = plan_of c.in-Some.plan in
    let multiplier = fraction_of c.plan_multiplier-multiplier.result in
    let is : certificate.plan ≡ Some p = ap (option_map plan_of) c.in-Some.is in
    let stated : ¬ LacksItsPlan certificate.claim certificate.plan = search rules in
    let fits : Fits junction p = search rules in
    let of_plan : IsPlanMultiplier junction p multiplier = rw (c.in-Ok.ensures.answer.0, c.in-Ok.ensures.answer.1) at c.plan_multiplier-multiplier.ensures in
    let below : ¬ IsBelow multiplier certificate.least = search rules in
    has_its_plan junction certificate p is stated multiplier c.multiple_of.result fits of_plan below (c.multiple_of.ensures junction p is of_plan)
