-- What contracts see of a certificate.
use Rattle.std.specs.Prelude.{ℕ, List, Option, option_map}
use Rattle.sig_base.specs.Fraction.{Fraction}
use Rattle.sig_base.specs.Ratio.{fraction_of}
use Rattle.plan_model.specs.SignalPlan.{PlanView}
use Rattle.plan_model.specs.Plan.{plan_of}
use Rattle.constraint_cycles.specs.Forest.{visited_in}
use Rattle.constraint_cycles.specs.declared.node.Node.{Node}
use Rattle.plan_certificate.specs.declared.claim.Claim.{Claim}
use Rattle.plan_certificate.specs.declared.certificate.Certificate.{Certificate}

pub record CertificateView : Type 0 where
  pub branches : List (List Node)
  pub budget : ℕ
  pub claim : Claim
  pub least : Fraction
  pub plan : Option PlanView

abbrev pub certificate_of : Certificate → CertificateView
certificate_of c = record {
  branches = c.branches;
  budget = c.budget;
  claim = c.claim;
  least = fraction_of c.least;
  plan = option_map plan_of c.plan;
}

-- the number of Split and Closed nodes in all trees
abbrev pub node_count : CertificateView → ℕ
node_count c = visited_in c.branches
