-- What the forests of searches show as certificates, with their plans stretched: the plan's multiplier doesn't fall, so
-- the targets beside it don't, and what closes for a target closes for every greater one.
use Rattle.std.specs.Prelude.{ℕ, List, Option, None, Some, ◌≡◌, ◌≤◌, ⊤, IfSome}
use Rattle.sig_base.specs.Ratio.{fraction_of}
use Rattle.sig_base.specs.declared.ratio.Ratio.{Ratio}
use Rattle.constraint_cycles.specs.declared.node.Node.{Node}
use Rattle.junction_model.specs.Junction.{JunctionView}
use Rattle.junction_model.specs.Rules.{IsJunction}
use Rattle.plan_model.specs.FittedPlan.{junction_of, fitted_plan_of}
use Rattle.plan_model.specs.Fits.{group_count}
use Rattle.plan_model.specs.SignalPlan.{PlanView}
use Rattle.plan_model.specs.declared.fitted_plan.FittedPlan.{FittedPlan}
use Rattle.cycle_orders.specs.Forest.{IsGreatest, IsShortest, IsExhausted, IsStoppedAt, IsFoundAmong, IsPassedAmong}
use Rattle.cycle_orders.specs.Joined.{IsAsked}
use Rattle.plan_stretch.specs.Stretch.{IsStretchOf, IsStretched}
use Rattle.plan_stretch.specs.StretchLaw.{IsNoWorse}
use Rattle.plan_certificate.specs.Certificate.{CertificateView}
use Rattle.plan_certificate.specs.Ranges.{IsInRange, IsLeast}
use Rattle.plan_certificate.specs.declared.claim.Claim.{Claim}
use Rattle.plan_certificate.specs.declared.claim.Claim.TheVariants as claim
use Rattle.certificate_checker.specs.Proves.{ProvesClaim}
use Rattle.plan_design.specs.Design.{IsShown, IsTrueStop}
use Rattle.plan_design.specs.declared.objective.Objective.{Objective}
use Rattle.plan_design.specs.declared.objective.Objective.TheVariants.{Capacity, Cycle}

-- the forest shows that the plan is the best one by this objective
abbrev pub IsBest : Objective → JunctionView → Ratio → PlanView → List (List Node) → Type 0
IsBest Capacity junction least = IsGreatest junction least
IsBest Cycle junction least = IsShortest junction least

-- the second plan is the stretch of the first
pub record IsStretchTo (junction : JunctionView) (p q : PlanView) : Type 0 where
  pub of : IsStretchOf junction p q
  pub stretched : IsStretched junction q
  pub no_worse : IsNoWorse junction p q

-- that of its junction, where there is one
abbrev pub AreStretched : Option FittedPlan → Option FittedPlan → Type 0
AreStretched None None = ⊤
AreStretched (Some f) (Some g) = (junction_of g ≡ junction_of f) × IsStretchTo (junction_of f) (fitted_plan_of f) (fitted_plan_of g)
AreStretched _ _ = ⊥

-- the second plan is the stretch of the first, which meets the least and begins with group 0
pub record IsStretchOfAsked (junction : JunctionView) (least : Ratio) (p q : PlanView) : Type 0 where
  pub asked : IsAsked junction least p
  pub stretch : IsStretchTo junction p q

-- that, or there is none
abbrev pub IsStretchOfAny : JunctionView → Ratio → Option PlanView → Option PlanView → Type 0
IsStretchOfAny junction least None None = ⊤
IsStretchOfAny junction least (Some p) (Some q) = IsStretchOfAsked junction least p q
IsStretchOfAny junction least _ _ = ⊥

-- the certificate of a claim, its plan and a forest
abbrev pub certified : Ratio → ℕ → Claim → Option PlanView → List (List Node) → CertificateView
certified least budget own plan forest = record { branches = forest; budget = budget; claim = own; least = fraction_of least; plan = plan }

-- a forest of the greatest multiplier shows that of the stretched plan
abbrev pub GreatestShownLaw : Type 0
GreatestShownLaw = (junction : JunctionView) (least : Ratio) (budget : ℕ) (p q : PlanView) (forest : List (List Node)) → IsJunction junction →
    IsStretchOfAsked junction least p q → IsGreatest junction least p forest →
    IsShown junction least (certified least budget claim.Capacity (Some q) forest)

-- one of the shortest cycle shows it of the stretched plan
abbrev pub ShortestShownLaw : Type 0
ShortestShownLaw = (junction : JunctionView) (least : Ratio) (budget : ℕ) (p q : PlanView) (forest : List (List Node)) → IsJunction junction →
    IsStretchOfAsked junction least p q → IsShortest junction least p forest →
    IsShown junction least (certified least budget claim.Cycle (Some q) forest)

-- one that leaves no plan shows that there is none
abbrev pub ExhaustedShownLaw : Type 0
ExhaustedShownLaw = (junction : JunctionView) (least : Ratio) (budget : ℕ) (forest : List (List Node)) → IsJunction junction →
    IsExhausted junction least forest → IsShown junction least (certified least budget claim.Infeasible None forest)

-- one of a stopped search stays that with the stretched plan, breaks no rule, and what its trees prove is true
abbrev pub StoppedShownLaw : Type 0
StoppedShownLaw = (junction : JunctionView) (least : Ratio) (budget : ℕ) (plan stretched : Option PlanView) (forest : List (List Node)) → IsJunction junction →
    IsStretchOfAny junction least plan stretched → IsStoppedAt junction least budget plan forest →
    IsTrueStop junction least budget (certified least budget claim.Stopped stretched forest)

-- the stretched plan was passed in the tree in which the plan was found
abbrev pub PassedShownLaw : Type 0
PassedShownLaw = (junction : JunctionView) (least : Ratio) (plan stretched : Option PlanView) (forest : List (List Node)) → IsJunction junction →
    IsStretchOfAny junction least plan stretched → IfSome plan (IsFoundAmong junction forest) → IfSome stretched (IsPassedAmong junction forest)

-- the parts of a certificate that proves its claim are in their ranges, where its least and its budget are
abbrev pub ShownRangeLaw : Type 0
ShownRangeLaw = (junction : JunctionView) (c : CertificateView) → IsJunction junction → IsLeast c.least → 1 ≤ c.budget →
    ProvesClaim junction c → IsInRange (group_count junction) c

-- and those of one of a stopped search
abbrev pub StoppedRangeLaw : Type 0
StoppedRangeLaw = (junction : JunctionView) (least : Ratio) (budget : ℕ) (c : CertificateView) → IsJunction junction → IsLeast c.least → 1 ≤ c.budget →
    IsTrueStop junction least budget c → IsInRange (group_count junction) c
