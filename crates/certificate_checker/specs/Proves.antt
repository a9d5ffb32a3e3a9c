-- Certificates that prove their claims: closed trees for every cycle that could refute them. It is said of walks alone;
-- that the claim is then true of all plans is a law.
use Rattle.std.specs.Prelude.{ℕ, List, length, Option, None, Some, ◌≡◌, All, IfSome, slice_get, ⊤}
use Rattle.sig_base.specs.Fraction.{Fraction}
use Rattle.sig_base.specs.declared.ratio.Ratio.{Ratio}
use Rattle.constraint_cycles.specs.Tree.{IsVisited}
use Rattle.constraint_cycles.specs.declared.node.Node.{Node}
use Rattle.junction_model.specs.Junction.{JunctionView}
use Rattle.plan_model.specs.SignalPlan.{PlanView}
use Rattle.plan_model.specs.Multiplier.{Meets, MeetsTarget}
use Rattle.plan_model.specs.Claims.{IsCapacityOptimal, IsCycleOptimal, IsInfeasible}
use Rattle.plan_model.specs.AllLanes.{all_lanes}
use Rattle.least_greens.specs.ForTarget.{ClosesCycleFor}
use Rattle.plan_certificate.specs.Certificate.{CertificateView}
use Rattle.plan_certificate.specs.declared.claim.Claim.{Claim}
use Rattle.plan_certificate.specs.declared.claim.Claim.TheVariants.{Capacity, Cycle, Infeasible, Stopped}
use Rattle.certificate_checker.specs.ClaimTrees.{cycle_of_tree, tree_count, IsMultipleOf, target_of}

-- a plan is there for the claims that speak of one, and none for the claim that there is none; a stopped search has
-- no claim to prove
abbrev pub HasPlanFor : Claim → Option PlanView → Type 0
HasPlanFor Capacity (Some p) = ⊤
HasPlanFor Cycle (Some p) = ⊤
HasPlanFor Infeasible None = ⊤
HasPlanFor claim plan = ⊥

-- the plan, if any, meets the certificate's least
abbrev pub PlanMeetsLeast : JunctionView → CertificateView → Type 0
PlanMeetsLeast junction c = IfSome c.plan (λ p. Meets junction p c.least)

-- the nodes close the cycle of the tree of this number for its target
abbrev pub ClosesItsCycle : JunctionView → CertificateView → Ratio → ℕ → List Node → Type 0
ClosesItsCycle junction c multiple number nodes =
    ClosesCycleFor junction all_lanes (target_of c multiple (cycle_of_tree junction number)) (cycle_of_tree junction number) nodes

-- the plan meets the least, and the tree of each cycle that the claim asks for closes it for its target
pub record ProvesClaim (junction : JunctionView) (c : CertificateView) : Type 0 where
  pub stated : HasPlanFor c.claim c.plan
  pub meets : PlanMeetsLeast junction c
  pub trees : length c.branches ≡ tree_count junction c.claim c.plan
  pub multiple : Ratio
  pub is : IsMultipleOf junction c multiple
  pub closed : (k : ℕ) (nodes : List Node) → slice_get c.branches k ≡ Some nodes → ClosesItsCycle junction c multiple k nodes

-- what is claimed, against all plans of the junction
abbrev pub ClaimHolds : JunctionView → Claim → Fraction → Option PlanView → Type 0
ClaimHolds junction Capacity least (Some p) = IsCapacityOptimal junction least p
ClaimHolds junction Cycle least (Some p) = IsCycleOptimal junction least p
ClaimHolds junction Infeasible least None = IsInfeasible junction least
ClaimHolds junction claim least plan = ⊥

abbrev pub IsTrueClaim : JunctionView → CertificateView → Type 0
IsTrueClaim junction c = ClaimHolds junction c.claim c.least c.plan

-- a stopped search: the plan meets the least, and each tree without an Unvisited node closes its cycle
pub record ProvesPart (junction : JunctionView) (c : CertificateView) : Type 0 where
  pub stopped : c.claim ≡ Stopped
  pub meets : PlanMeetsLeast junction c
  pub multiple : Ratio
  pub is : IsMultipleOf junction c multiple
  pub closed : (k : ℕ) (nodes : List Node) → slice_get c.branches k ≡ Some nodes → All IsVisited nodes →
      ClosesItsCycle junction c multiple k nodes

-- the plan meets the least, and no plan of a cycle whose tree has no Unvisited node meets the target of that cycle
pub record IsTruePart (junction : JunctionView) (c : CertificateView) : Type 0 where
  pub meets : PlanMeetsLeast junction c
  pub multiple : Ratio
  pub is : IsMultipleOf junction c multiple
  pub excluded : (k : ℕ) (nodes : List Node) (q : PlanView) → slice_get c.branches k ≡ Some nodes → All IsVisited nodes →
      q.cycle ≡ cycle_of_tree junction k → ¬ MeetsTarget junction q all_lanes (target_of c multiple q.cycle)
