-- What is written is the data of the certificate.
use Rattle.std.proofs.Common.{ℕ, List, Option, Some, None, inl, inr, refl}
use Rattle.std.proofs.lemmas.Bool.{cases_Bool}
use Rattle.constraint_cycles.specs.declared.node.Node.{Node}
use Rattle.plan_model.specs.SignalPlan.{PlanView}
use Rattle.plan_certificate.specs.Certificate.{CertificateView}
use Rattle.plan_certificate.specs.Contents.{IsPlanData, Holds}
use Rattle.plan_certificate.specs.Ranges.{IsInRange}
use Rattle.plan_certificate.specs.Reads.{IsCertificate}
use Rattle.plan_certificate.specs.Text.{plan_or_null, plan_members, contents_of, certificate_members, certificate_data}
use Rattle.plan_certificate.specs.Version.{are_of_first, version_of, IsVersionOf}

plan_held : (plan : Option PlanView) → IsPlanData (plan_or_null plan) plan
plan_held None = refl
plan_held (Some p) = record { members = plan_members p; object = refl; three = refl; cycle = refl; greens = refl; starts = refl }

held : (c : CertificateView) → Holds (certificate_data c) (contents_of (version_of c.branches) c)
held c = record {
  members = certificate_members c;
  object = refl;
  six = refl;
  branches = refl;
  budget = refl;
  claim = refl;
  least = refl;
  plan = (plan_or_null c.plan, refl, plan_held c.plan);
  version = refl;
}

version_allowed : (trees : List (List Node)) → IsVersionOf trees (version_of trees)
version_allowed trees = elim (cases_Bool (are_of_first trees)) [
  | inl first ↦ rw first (inl (refl, refl))
  | inr second ↦ rw second (inr refl)
]

pub written : (groups : ℕ) (c : CertificateView) → IsInRange groups c → IsCertificate groups (certificate_data c) c
written groups c range = record { version = version_of c.branches; contents = held c; allowed = version_allowed c.branches; range = range }
