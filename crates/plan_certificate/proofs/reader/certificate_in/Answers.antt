use Rattle.std.proofs.Common.{◌≡◌, Option, option_map}
use Rattle.std.proofs.lemmas.Result.{IfOk-weaker}
use Rattle.serde_json.specs.View.{members_view}
use Rattle.sig_base.specs.Ratio.{fraction_of}
use Rattle.plan_certificate.specs.Certificate.{certificate_of}
use Rattle.plan_certificate.specs.Members.{certificate_beside, IsGiven}
use Rattle.plan_certificate.specs.declared.certificate.Certificate.{Certificate}
use Rattle.plan_certificate.proofs.Certificates.{given}
use Rattle.plan_certificate.proofs.reader.certificate_in.Goals as goal

pub returns-in-Some : goal.returns-in-Some
returns-in-Some c =
    let members = members_view c.args.map.now.entries in
    let least = rw c.in-Some.is at c.least_in.ensures.some in
    IfOk-weaker c.certificate_beside.result
    (λ (o : Option Certificate). option_map certificate_of o ≡ certificate_beside c.args.groups (fraction_of c.in-Some.least) members)
    (λ (o : Option Certificate). IsGiven c.args.groups members (option_map certificate_of o))
    (λ o e. given c.args.groups members (fraction_of c.in-Some.least) (option_map certificate_of o) least e)
    c.certificate_beside.ensures
