-- The trees that a claim asks for, and the target for which each of them is to close its cycle.
use Rattle.std.specs.Prelude.{ℕ, Option, Some, ◌≡◌, ◌+◌, ◌-◌, ◌≤◌}
use Rattle.sig_base.specs.Fraction.{Fraction}
use Rattle.sig_base.specs.Ratio.{fraction_of}
use Rattle.sig_base.specs.declared.ratio.Ratio.{Ratio}
use Rattle.sig_base.specs.declared.target.Target.{Target}
use Rattle.sig_base.specs.declared.target.Target.TheVariants.{Reach}
use Rattle.junction_model.specs.Junction.{JunctionView}
use Rattle.plan_model.specs.SignalPlan.{PlanView}
use Rattle.plan_model.specs.Claims.{IsPlanMultiplier}
use Rattle.least_greens.specs.ForTarget.{target_beside}
use Rattle.plan_certificate.specs.Certificate.{CertificateView}
use Rattle.plan_certificate.specs.declared.claim.Claim.{Claim}
use Rattle.plan_certificate.specs.declared.claim.Claim.TheVariants.{Capacity, Cycle, Infeasible, Stopped}

-- the number of cycles within the limits
abbrev pub cycle_count : JunctionView → ℕ
cycle_count junction = junction.greatest_cycle - junction.least_cycle + 1

-- the cycle of the tree of a number: trees count from the least cycle
abbrev pub cycle_of_tree : JunctionView → ℕ → ℕ
cycle_of_tree junction number = junction.least_cycle + number

-- one tree for each cycle within the limits; for a shortest cycle, one for each cycle below the plan's
abbrev pub tree_count : JunctionView → Claim → Option PlanView → ℕ
tree_count junction Cycle (Some p) = p.cycle - junction.least_cycle
tree_count junction claim plan = cycle_count junction

-- as many trees as the claim asks for; a stopped search has some, and no more than cycles
abbrev pub HasItsTrees : JunctionView → Claim → Option PlanView → ℕ → Type 0
HasItsTrees junction Capacity plan trees = trees ≡ tree_count junction Capacity plan
HasItsTrees junction Cycle plan trees = trees ≡ tree_count junction Cycle plan
HasItsTrees junction Infeasible plan trees = trees ≡ tree_count junction Infeasible plan
HasItsTrees junction Stopped plan trees = (1 ≤ trees) × (trees ≤ cycle_count junction)

-- the multiple of the targets: the plan's multiplier where a plan is to be beaten, else the least
abbrev pub IsMultipleFor : JunctionView → Claim → Option PlanView → Fraction → Ratio → Type 0
IsMultipleFor junction Capacity (Some p) least multiple = IsPlanMultiplier junction p (fraction_of multiple)
IsMultipleFor junction Stopped (Some p) least multiple = IsPlanMultiplier junction p (fraction_of multiple)
IsMultipleFor junction claim plan least multiple = fraction_of multiple ≡ least

abbrev pub IsMultipleOf : JunctionView → CertificateView → Ratio → Type 0
IsMultipleOf junction c multiple = IsMultipleFor junction c.claim c.plan c.least multiple

-- the target of the tree of a cycle: beside a plan that is to be beaten, or to reach the least
abbrev pub target_for : Claim → Option PlanView → Ratio → ℕ → Target
target_for Capacity (Some p) multiple cycle = target_beside p.cycle multiple cycle
target_for Stopped (Some p) multiple cycle = target_beside p.cycle multiple cycle
target_for claim plan multiple cycle = Reach multiple

abbrev pub target_of : CertificateView → Ratio → ℕ → Target
target_of c multiple cycle = target_for c.claim c.plan multiple cycle
