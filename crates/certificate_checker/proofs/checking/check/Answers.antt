use Rattle.plan_certificate.specs.Certificate.{certificate_of}
use Rattle.certificate_checker.proofs.CertificateRules.{proved_proves, proves_proved, partial_proves, verdict_names}
use Rattle.certificate_checker.proofs.checking.check.Goals as goal

pub returns-clause-proved : goal.returns-clause-proved
returns-clause-proved c =
    let junction = c.args.junction.now in
    let certificate = certificate_of c.args.certificate.now in (
      proved_proves junction certificate c.verdict_of.result c.verdict_of.ensures,
      λ proves.
          let none = c.rules_law.ensures junction certificate c.rules.ensures proves in
          proves_proved junction certificate c.verdict_of.result c.verdict_of.ensures none.0 none.1,
    )

pub returns-clause-part : goal.returns-clause-part
returns-clause-part c = λ partial.
    let part = partial_proves c.args.junction.now (certificate_of c.args.certificate.now) c.verdict_of.result c.verdict_of.ensures partial in
    c.part_law.ensures _ _ c.rules.ensures part.1

pub returns-clause-names : goal.returns-clause-names
returns-clause-names c =
    verdict_names c.fault_names_law.ensures c.args.junction.now (certificate_of c.args.certificate.now) c.verdict_of.result c.verdict_of.ensures
