use Rattle.certificate_checker.proofs.CertificateRules.{rules_law}
use Rattle.certificate_checker.proofs.laws.rules_law.Goals as goal

pub returns : goal.returns
returns c = rules_law c.fault_law.ensures
