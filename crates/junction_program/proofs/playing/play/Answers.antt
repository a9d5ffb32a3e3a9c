use Rattle.std.proofs.Common.{◌≡◌, refl, inl, inr, rules}
use Rattle.std.specs.Prelude.{Some, None}
use Rattle.plan_certificate.specs.Certificate.{certificate_of}
use Rattle.plan_model.specs.FirstFault.{IsFirstFault}
use Rattle.plan_model.specs.Fits.{Fits}
use Rattle.plan_model.specs.FittedPlan.{junction_of, fitted_plan_of}
use Rattle.plan_model.specs.Plan.{plan_of}
use Rattle.junction_program.proofs.Accepted.{files_ended, neither}
use Rattle.junction_program.proofs.Endings.{answered_later, rows_later}
use Rattle.junction_program.proofs.playing.play.Goals as goal

pub returns-in-Err : goal.returns-in-Err
returns-in-Err g c = files_ended _ _ _ _ (λ a r. inl r) c.in-Err.ensures.ends

pub returns-in_default : goal.returns-in_default
returns-in_default g c =
    let own = certificate_of c.in-Ok.files.certificate in
    let none : own.plan ≡ None = search rules in
    answered_later _ _ _ _ _ _ _ _ _ _ _ c.in-Ok.ensures.unchanged
    (inr (record { junction = c.in-Ok.files.junction; accepted = c.in-Ok.ensures.accepted; certificate = own; found = c.in-Ok.ensures.found; own = inr (inl (none, refl)) }))
    refl tt (neither _ _ _ _ _ c.in-Ok.ensures.accepted c.in-Ok.ensures.found.fetched) c.refuse_plan.ensures

pub returns-in-Ok-new : goal.returns-in-Ok-new
returns-in-Ok-new g c =
    let own = certificate_of c.in-Ok.files.certificate in
    let there : own.plan ≡ Some (plan_of c.in-Some.plan) = search rules in
    let same_junction : junction_of c.in-Ok-new.fitted ≡ c.in-Ok.files.junction = search rules in
    let same_plan : fitted_plan_of c.in-Ok-new.fitted ≡ plan_of c.in-Some.plan = search rules in
    let fits : Fits c.in-Ok.files.junction (plan_of c.in-Some.plan) = search rules in
    rows_later _ _ _ _ _ _ _ _ _ _ _ c.in-Ok.ensures.unchanged
    (inr (record {
      junction = c.in-Ok.files.junction;
      accepted = c.in-Ok.ensures.accepted;
      certificate = own;
      found = c.in-Ok.ensures.found;
      own = inl (record { plan = plan_of c.in-Some.plan; of_certificate = there; fits = fits; told = rw (same_junction, same_plan) refl });
    }))
    refl tt (neither _ _ _ _ _ c.in-Ok.ensures.accepted c.in-Ok.ensures.found.fetched) c.push_rows.ensures

pub returns : goal.returns
returns g c =
    let own = certificate_of c.in-Ok.files.certificate in
    let there : own.plan ≡ Some (plan_of c.in-Some.plan) = search rules in
    let fault : IsFirstFault c.in-Ok.files.junction (plan_of c.in-Some.plan) c.in-Err-new.fault = search rules in
    answered_later _ _ _ _ _ _ _ _ _ _ _ c.in-Ok.ensures.unchanged
    (inr (record {
      junction = c.in-Ok.files.junction;
      accepted = c.in-Ok.ensures.accepted;
      certificate = own;
      found = c.in-Ok.ensures.found;
      own = inr (inr (plan_of c.in-Some.plan, c.in-Err-new.fault, there, fault, refl));
    }))
    refl tt (neither _ _ _ _ _ c.in-Ok.ensures.accepted c.in-Ok.ensures.found.fetched) c.refuse_plan-in-Err-new.ensures
