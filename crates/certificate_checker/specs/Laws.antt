-- What certificates show.
use Rattle.std.specs.Prelude.{◌≢◌}
use Rattle.junction_model.specs.Junction.{JunctionView}
use Rattle.junction_model.specs.Rules.{IsJunction}
use Rattle.plan_certificate.specs.Certificate.{CertificateView}
use Rattle.plan_certificate.specs.declared.claim.Claim.TheVariants.{Stopped}
use Rattle.certificate_checker.specs.CertificateRules.{BreaksNoRule}
use Rattle.certificate_checker.specs.Proves.{ProvesClaim, IsTrueClaim, ProvesPart, IsTruePart}

-- a certificate that proves its claim breaks no rule, and is none of a stopped search
abbrev pub RulesLaw : Type 0
RulesLaw = (junction : JunctionView) (c : CertificateView) → IsJunction junction → ProvesClaim junction c →
    BreaksNoRule junction c × (c.claim ≢ Stopped)

-- what a certificate proves is true of all plans
abbrev pub ProofLaw : Type 0
ProofLaw = (junction : JunctionView) (c : CertificateView) → IsJunction junction → ProvesClaim junction c → IsTrueClaim junction c

-- and so is the part that one of a stopped search proves
abbrev pub PartLaw : Type 0
PartLaw = (junction : JunctionView) (c : CertificateView) → IsJunction junction → ProvesPart junction c → IsTruePart junction c
