-- What a verdict says.
use Rattle.std.specs.Prelude.{⊤}
use Rattle.junction_model.specs.Junction.{JunctionView}
use Rattle.plan_model.specs.FirstFault.{NamesPartsOf}
use Rattle.plan_certificate.specs.Certificate.{CertificateView}
use Rattle.certificate_checker.specs.CertificateRules.{BreaksNoRule, IsFirstOfAll}
use Rattle.certificate_checker.specs.Proves.{ProvesClaim, ProvesPart}
use Rattle.certificate_checker.specs.declared.rule.Rule.{Rule}
use Rattle.certificate_checker.specs.declared.rule.Rule.TheVariants.{Fit}
use Rattle.certificate_checker.specs.declared.verdict.Verdict.{Verdict}
use Rattle.certificate_checker.specs.declared.verdict.Verdict.TheVariants.{Proved, Partial, Broken}

-- no rule is broken, and the certificate proves its claim; none is, and it is one of a stopped search and proves its
-- part; or the rule is the first of all that are broken
abbrev pub IsVerdict : JunctionView → CertificateView → Verdict → Type 0
IsVerdict junction c Proved = BreaksNoRule junction c × ProvesClaim junction c
IsVerdict junction c Partial = BreaksNoRule junction c × ProvesPart junction c
IsVerdict junction c (Broken rule cycle place) = IsFirstOfAll junction c rule cycle place

abbrev pub IsOfRule : JunctionView → Rule → Type 0
IsOfRule junction (Fit fault) = NamesPartsOf junction fault
IsOfRule junction _ = ⊤

-- each group and link that the verdict names is one of the junction's
abbrev pub IsVerdictOn : JunctionView → Verdict → Type 0
IsVerdictOn junction (Broken rule cycle place) = IsOfRule junction rule
IsVerdictOn junction _ = ⊤
