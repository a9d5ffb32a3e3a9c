-- The text of a certificate: the compact form of a JSON object, its keys in alphabetical order.
use Rattle.std.specs.Prelude.{ℕ, codes, List, Option, None, Some}
use Rattle.serde_json.specs.Data.{Data, null, string, object, Members, member, no_members}
use Rattle.serde_json.specs.Written.{compact_text}
use Rattle.plan_model.specs.SignalPlan.{PlanView}
use Rattle.plan_certificate.specs.Certificate.{CertificateView}
use Rattle.plan_certificate.specs.Contents.{Contents, whole, wholes, fraction_data, forest_data}
use Rattle.plan_certificate.specs.Version.{version_of}
use Rattle.plan_certificate.specs.declared.claim.Claim.{Claim}
use Rattle.plan_certificate.specs.declared.claim.Claim.TheVariants as claim

abbrev pub claim_word : Claim → List ℕ
claim_word claim.Capacity = codes "capacity"
claim_word claim.Cycle = codes "cycle"
claim_word claim.Infeasible = codes "infeasible"
claim_word claim.Stopped = codes "stopped"

-- what stands in a text of this version
abbrev pub contents_of : ℕ → CertificateView → Contents
contents_of version c = record {
  branches = c.branches;
  budget = c.budget;
  claim = claim_word c.claim;
  least = c.least;
  plan = c.plan;
  version = version;
}

abbrev pub plan_members : PlanView → Members
plan_members p =
    member (codes "cycle") (whole p.cycle)
    (member (codes "greens") (wholes p.greens)
    (member (codes "starts") (wholes p.starts) no_members))

abbrev pub plan_data : PlanView → Data
plan_data p = object (plan_members p)

abbrev pub plan_or_null : Option PlanView → Data
plan_or_null None = null
plan_or_null (Some p) = plan_data p

abbrev pub certificate_members : CertificateView → Members
certificate_members c =
    member (codes "branches") (forest_data c.branches)
    (member (codes "budget") (whole c.budget)
    (member (codes "claim") (string (claim_word c.claim))
    (member (codes "least") (fraction_data c.least)
    (member (codes "plan") (plan_or_null c.plan)
    (member (codes "version") (whole (version_of c.branches)) no_members)))))

abbrev pub certificate_data : CertificateView → Data
certificate_data c = object (certificate_members c)

unfoldable pub text_of : CertificateView → List ℕ
text_of c = compact_text (certificate_data c)
