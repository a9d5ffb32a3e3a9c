use Rattle.std.proofs.Common.{◌≡◌, sym, subst, ◌∙◌}
use Rattle.std.proofs.lemmas.Option.{same_Some}
use Rattle.serde_json.specs.View.{view}
use Rattle.plan_certificate.specs.Reads.{IsCertificate}
use Rattle.plan_certificate.proofs.Certificates.{given_back}
use Rattle.plan_certificate.proofs.reader.read.Goals as goal

pub returns-in-Ok-clause-given_back : goal.returns-in-Ok-clause-given_back
returns-in-Ok-clause-given_back c = λ certificate spells.
    let value = view c.in-Ok.value in
    let same : spells.value ≡ value = same_Some spells.value value (sym spells.json.value ∙ c.in-Ok.ensures.ok.1) in
    let here = subst (λ d. IsCertificate c.args.groups d certificate) same spells.certificate in
    given_back c.args.groups c.requires.low value certificate here c.certificate_from.result c.certificate_from.ensures.certificate c.certificate_from.ensures.fault
