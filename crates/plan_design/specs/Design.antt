-- What a design is: a certificate whose plan is as good as its starts allow, and what it shows of all plans.
use Rattle.std.specs.Prelude.{ℕ, Option, None, ◌≡◌, ◌≢◌, ◌<◌, ◌≤◌, ◌⊎◌, IfSome, option_map}
use Rattle.sig_base.specs.Ratio.{fraction_of}
use Rattle.sig_base.specs.declared.ratio.Ratio.{Ratio}
use Rattle.junction_model.specs.Covers.{cover_of}
use Rattle.junction_model.specs.Junction.{JunctionView}
use Rattle.plan_model.specs.AllLanes.{all_lanes}
use Rattle.plan_model.specs.FittedPlan.{junction_of, fitted_plan_of}
use Rattle.plan_model.specs.Fits.{group_count}
use Rattle.plan_model.specs.SignalPlan.{PlanView, start_of}
use Rattle.plan_model.specs.declared.fitted_plan.FittedPlan.{FittedPlan}
use Rattle.cycle_orders.specs.Forest.{EachTreeOf, IsLeanForLeast, IsPassedAmong, IsStoppedAt}
use Rattle.cycle_orders.specs.Lean.{IsLeanFor}
use Rattle.plan_stretch.specs.Stretch.{IsStretched}
use Rattle.plan_certificate.specs.Certificate.{CertificateView, node_count}
use Rattle.plan_certificate.specs.Ranges.{IsInRange}
use Rattle.plan_certificate.specs.declared.claim.Claim.{Claim}
use Rattle.plan_certificate.specs.declared.claim.Claim.TheVariants as claim
use Rattle.certificate_checker.specs.CertificateRules.{BreaksNoRule}
use Rattle.certificate_checker.specs.ClaimTrees.{IsMultipleOf, target_of}
use Rattle.certificate_checker.specs.Proves.{ProvesClaim, IsTrueClaim, ProvesPart, IsTruePart}
use Rattle.plan_design.specs.declared.objective.Objective.{Objective}
use Rattle.plan_design.specs.declared.objective.Objective.TheVariants.{Capacity, Cycle}

-- what is claimed of the plan that is looked for
abbrev pub claim_of : Objective → Claim
claim_of Capacity = claim.Capacity
claim_of Cycle = claim.Cycle

-- the plan begins with group 0 at second 0, and its greens are as long as its starts allow
pub record IsDesignedPlan (junction : JunctionView) (p : PlanView) : Type 0 where
  pub first : start_of p 0 ≡ 0
  pub stretched : IsStretched junction p

-- the claim of the objective, that there is no plan, or that the search was stopped
abbrev pub IsClaimFor : Objective → Claim → Type 0
IsClaimFor objective own = (own ≡ claim_of objective) ⊎ ((own ≡ claim.Infeasible) ⊎ (own ≡ claim.Stopped))

-- the certificate proves its claim, which is true of all plans; its trees split no order without need: they are lean for
-- reaching the least, and for the target for which each closes its cycle
pub record IsShown (junction : JunctionView) (least : Ratio) (c : CertificateView) : Type 0 where
  pub proves : ProvesClaim junction c
  pub holds : IsTrueClaim junction c
  pub lean : EachTreeOf junction (IsLeanForLeast junction least) c.branches
  pub own_lean : (multiple : Ratio) → IsMultipleOf junction c multiple →
      EachTreeOf junction (λ cycle. IsLeanFor junction all_lanes (target_of c multiple cycle) cycle) c.branches

-- a search that was stopped with its budget: no rule of certificates is broken, what the trees prove is true of all plans,
-- and no order was split without need
pub record IsTrueStop (junction : JunctionView) (least : Ratio) (budget : ℕ) (c : CertificateView) : Type 0 where
  pub claim : c.claim ≡ claim.Stopped
  pub rules : BreaksNoRule junction c
  pub part : ProvesPart junction c
  pub holds : IsTruePart junction c
  pub search : IsStoppedAt junction least budget c.plan c.branches

-- a certificate of the asked least and the given budget, with no more visited nodes than that, of the claim that is looked
-- for, of none or of a stopped search: it shows its claim, or how the search was stopped, whose plan was passed in the tree of its cycle
pub record IsDesign (junction : JunctionView) (objective : Objective) (least : Ratio) (budget : ℕ) (c : CertificateView) : Type 0 where
  pub least_is : c.least ≡ fraction_of least
  pub budget_is : c.budget ≡ budget
  pub within : node_count c ≤ c.budget
  pub range : IsInRange (group_count junction) c
  pub plan : IfSome c.plan (IsDesignedPlan junction)
  pub claimed : IsClaimFor objective c.claim
  pub shown : c.claim ≢ claim.Stopped → IsShown junction least c
  pub stopped : c.claim ≡ claim.Stopped → IsTrueStop junction least budget c
  pub passed : c.claim ≡ claim.Stopped → IfSome c.plan (IsPassedAmong junction c.branches)
  pub uncovered : c.claim ≡ claim.Stopped → budget < cover_of junction
  pub planless : objective ≡ Cycle → c.claim ≡ claim.Stopped → c.plan ≡ None

-- the certificate's plan, beside the junction that it fits
abbrev pub IsOwnPlan : JunctionView → CertificateView → Option FittedPlan → Type 0
IsOwnPlan junction c plan = (option_map fitted_plan_of plan ≡ c.plan) × IfSome plan (λ f. junction_of f ≡ junction)
