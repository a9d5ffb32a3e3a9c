use Rattle.std.proofs.Common.{sym, ◌∙◌}
use Rattle.serde_json.specs.View.{view, members_view}
use Rattle.plan_certificate.proofs.Certificates.{misshapen, out_of_range, certificate_read}
use Rattle.plan_certificate.proofs.reader.certificate_from.Goals as goal

pub returns-then-not-is_certificate-clause-fault : goal.returns-then-not-is_certificate-clause-fault
returns-then-not-is_certificate-clause-fault c =
    let found = rw c.in-Some.is at c.as_object.ensures in
    misshapen (view c.args.value.now) (members_view c.in-Some.map.now.entries) (sym found) (sym c.is_certificate.ensures ∙ c.if-not-is_certificate.true)

pub returns-in-Some-2-clause-certificate : goal.returns-in-Some-2-clause-certificate
returns-in-Some-2-clause-certificate c =
    let found = rw c.in-Some.is at c.as_object.ensures in
    let given = rw c.in-Some-2.is at c.in_ok-certificate.ensures in
    certificate_read c.args.groups c.requires.low c.requires.high (view c.args.value.now) (members_view c.in-Some.map.now.entries) _ (sym found)
    (sym c.is_certificate.ensures ∙ c.if-not-is_certificate.false) given

pub returns-in-None-clause-fault : goal.returns-in-None-clause-fault
returns-in-None-clause-fault c =
    let found = rw c.in-Some.is at c.as_object.ensures in
    let none = rw c.in-None.is at c.in_ok-certificate.ensures in
    out_of_range c.args.groups c.requires.low (view c.args.value.now) (members_view c.in-Some.map.now.entries) (sym found)
    (sym c.is_certificate.ensures ∙ c.if-not-is_certificate.false) none
