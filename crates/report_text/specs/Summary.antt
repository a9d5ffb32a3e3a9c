-- The summary of a sample junction's certificate.
use Rattle.std.specs.Prelude.{codes, ℕ, List, [], length, Option, ◌≡◌, ◌++◌, decimal, MatchOption}
use Rattle.conflict_matrix.specs.Pairs.{pairs_of}
use Rattle.junction_model.specs.Junction.{JunctionView}
use Rattle.plan_model.specs.SignalPlan.{PlanView}
use Rattle.plan_certificate.specs.Certificate.{CertificateView, node_count}
use Rattle.plan_certificate.specs.declared.claim.Claim.{Claim}
use Rattle.plan_certificate.specs.declared.claim.Claim.TheVariants as claim
use Rattle.report_text.specs.Head.{claim_line, nodes_line}
use Rattle.report_text.specs.PlanLines.{AreCycleLines}

abbrev pub count_line : List ℕ → ℕ → List ℕ
count_line words count = words ++ (decimal count ++ codes "\n")

-- how many groups, lanes and conflicting pairs the junction has
abbrev pub size_lines : JunctionView → List ℕ
size_lines junction = count_line (codes "groups ") (length junction.groups)
    ++ (count_line (codes "lanes ") (length junction.lanes) ++ count_line (codes "conflicts ") (length (pairs_of junction.conflicts)))

-- what a check says of a certificate that breaks no rule
abbrev pub closing_line : Claim → List ℕ
closing_line claim.Capacity = codes "verdict proved\n"
closing_line claim.Cycle = codes "verdict proved\n"
closing_line claim.Infeasible = codes "verdict proved\n"
closing_line claim.Stopped = codes "verdict partial\n"

abbrev pub AreCycleLinesIfAny : JunctionView → Option PlanView → List ℕ → Type 0
AreCycleLinesIfAny junction plan text = MatchOption plan (text ≡ []) (λ p. AreCycleLines junction p text)

-- the sample's number, its sizes, the claim with its nodes, the cycle and the multiplier of a plan, and the verdict
pub record IsSummary (number : ℕ) (junction : JunctionView) (c : CertificateView) (text : List ℕ) : Type 0 where
  pub cycle : List ℕ
  pub is_cycle : AreCycleLinesIfAny junction c.plan cycle
  pub joined : text ≡ count_line (codes "sample ") number ++ (size_lines junction
      ++ (claim_line c.claim ++ (nodes_line (node_count c) ++ (cycle ++ closing_line c.claim))))
