-- The rules that a certificate can break, each with the cycle and the place where it does, and the first of them.
use Rattle.std.specs.Prelude.{ℕ, List, length, Option, None, Some, ◌≡◌, ◌≢◌, ◌<◌, ◌≤◌, ◌⊎◌, IsSomeAnd, slice_get, ⊤}
use Rattle.sig_base.specs.Fraction.{Fraction, IsBelow}
use Rattle.sig_base.specs.declared.ratio.Ratio.{Ratio}
use Rattle.constraint_cycles.specs.declared.node.Node.{Node}
use Rattle.junction_model.specs.Junction.{JunctionView}
use Rattle.plan_model.specs.SignalPlan.{PlanView}
use Rattle.plan_model.specs.FirstFault.{IsFirstFault}
use Rattle.plan_model.specs.Claims.{IsPlanMultiplier}
use Rattle.plan_certificate.specs.Certificate.{CertificateView, node_count}
use Rattle.plan_certificate.specs.declared.claim.Claim.{Claim}
use Rattle.plan_certificate.specs.declared.claim.Claim.TheVariants.{Capacity, Cycle, Infeasible, Stopped}
use Rattle.certificate_checker.specs.ClaimTrees.{cycle_of_tree, HasItsTrees, IsMultipleOf}
use Rattle.certificate_checker.specs.Basis.{basis_for}
use Rattle.certificate_checker.specs.Rules.{rule_number}
use Rattle.certificate_checker.specs.TreeRules.{BreaksAt}
use Rattle.certificate_checker.specs.declared.rule.Rule.{Rule}
use Rattle.certificate_checker.specs.declared.rule.Rule.TheVariants as rule

-- a claim of a plan without one, or a plan beside the claim that there is none
abbrev pub LacksItsPlan : Claim → Option PlanView → Type 0
LacksItsPlan Capacity None = ⊤
LacksItsPlan Cycle None = ⊤
LacksItsPlan Infeasible (Some p) = ⊤
LacksItsPlan claim plan = ⊥

-- the plan's multiplier is below the least
pub record IsBelowLeast (junction : JunctionView) (least : Fraction) (p : PlanView) : Type 0 where
  pub multiplier : Fraction
  pub of_plan : IsPlanMultiplier junction p multiplier
  pub below : IsBelow multiplier least

-- a stopped search that visited fewer or more nodes than its budget
pub record MissesItsBudget (c : CertificateView) : Type 0 where
  pub stopped : c.claim ≡ Stopped
  pub other : node_count c ≢ c.budget

-- a rule of the whole certificate is told with cycle 0 and place 0
abbrev pub IsNowhere : ℕ → ℕ → Type 0
IsNowhere cycle place = (cycle ≡ 0) × (place ≡ 0)

-- the tree of a cycle breaks the rule at a place
pub record BreaksInTree (junction : JunctionView) (c : CertificateView) (broken : Rule) (cycle place : ℕ) : Type 0 where
  pub number : ℕ
  pub nodes : List Node
  pub there : slice_get c.branches number ≡ Some nodes
  pub of_cycle : cycle ≡ cycle_of_tree junction number
  pub multiple : Ratio
  pub is : IsMultipleOf junction c multiple
  pub breaks : BreaksAt (basis_for junction c multiple number) nodes broken place

abbrev pub BreaksRule : JunctionView → CertificateView → Rule → ℕ → ℕ → Type 0
BreaksRule junction c rule.Plan cycle place = LacksItsPlan c.claim c.plan × IsNowhere cycle place
BreaksRule junction c (rule.Fit fault) cycle place = IsSomeAnd c.plan (λ p. IsFirstFault junction p fault) × IsNowhere cycle place
BreaksRule junction c rule.Least cycle place = IsSomeAnd c.plan (IsBelowLeast junction c.least) × IsNowhere cycle place
BreaksRule junction c rule.Cycles cycle place = (¬ HasItsTrees junction c.claim c.plan (length c.branches)) × IsNowhere cycle place
BreaksRule junction c rule.Budget cycle place = MissesItsBudget c × IsNowhere cycle place
BreaksRule junction c broken cycle place = BreaksInTree junction c broken cycle place

abbrev pub BreaksNoRule : JunctionView → CertificateView → Type 0
BreaksNoRule junction c = (broken : Rule) (cycle place : ℕ) → ¬ BreaksRule junction c broken cycle place

-- when a rule is tested: those of trees together, after the others but for the last one
abbrev pub turn_of : Rule → ℕ
turn_of rule.Plan = 1
turn_of (rule.Fit fault) = 2
turn_of rule.Least = 3
turn_of rule.Cycles = 4
turn_of rule.Budget = 10
turn_of broken = 5

-- the order of two places in trees: by cycle, place in the tree and number of the rule
abbrev pub IsNotAfterInTrees : Rule → ℕ → ℕ → Rule → ℕ → ℕ → Type 0
IsNotAfterInTrees a cycle place b other_cycle other_place =
    (cycle < other_cycle) ⊎ ((cycle ≡ other_cycle) × ((place < other_place)
    ⊎ ((place ≡ other_place) × (rule_number a ≤ rule_number b))))

-- the order of testing: by turn, and then by that
abbrev pub IsNotAfter : Rule → ℕ → ℕ → Rule → ℕ → ℕ → Type 0
IsNotAfter a cycle place b other_cycle other_place =
    (turn_of a < turn_of b) ⊎ ((turn_of a ≡ turn_of b) × IsNotAfterInTrees a cycle place b other_cycle other_place)

-- the first of all broken rules
pub record IsFirstOfAll (junction : JunctionView) (c : CertificateView) (broken : Rule) (cycle place : ℕ) : Type 0 where
  pub breaks : BreaksRule junction c broken cycle place
  pub first : (other : Rule) (other_cycle other_place : ℕ) → BreaksRule junction c other other_cycle other_place →
      IsNotAfter broken cycle place other other_cycle other_place
