-- A certificate whose plan keeps the rules of plans, and trees that break none so far.
use Rattle.std.specs.Prelude.{ℕ, List, Some, ◌≡◌, ◌<◌, slice_get}
use Rattle.sig_base.specs.declared.ratio.Ratio.{Ratio}
use Rattle.constraint_cycles.specs.declared.node.Node.{Node}
use Rattle.junction_model.specs.Junction.{JunctionView}
use Rattle.plan_certificate.specs.Certificate.{CertificateView}
use Rattle.certificate_checker.specs.Basis.{basis_for}
use Rattle.certificate_checker.specs.CertificateRules.{LacksItsPlan}
use Rattle.certificate_checker.specs.ClaimTrees.{IsMultipleOf}
use Rattle.certificate_checker.specs.Proves.{PlanMeetsLeast}
use Rattle.certificate_checker.specs.TreeRules.{NoneBreaks}

-- the plan, if any, is one that the claim speaks of, fits and meets the least; the multiple is that of the targets
pub record HasItsPlan (junction : JunctionView) (c : CertificateView) (multiple : Ratio) : Type 0 where
  pub stated : ¬ LacksItsPlan c.claim c.plan
  pub meets : PlanMeetsLeast junction c
  pub is : IsMultipleOf junction c multiple

-- the trees below a number break no rule
abbrev pub NoTreeBelow : JunctionView → CertificateView → Ratio → ℕ → Type 0
NoTreeBelow junction c multiple number = (k : ℕ) (nodes : List Node) → k < number → slice_get c.branches k ≡ Some nodes →
    NoneBreaks (basis_for junction c multiple k) nodes
