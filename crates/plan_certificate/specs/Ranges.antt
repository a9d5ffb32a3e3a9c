-- The ranges of a certificate's parts.
use Rattle.std.specs.Prelude.{ℕ, List, length, ◌≡◌, ◌≤◌, ◌<◌, ⊤, All, IfSome}
use Rattle.sig_base.specs.Fraction.{Fraction, IsLowest}
use Rattle.plan_model.specs.SignalPlan.{PlanView}
use Rattle.constraint_cycles.specs.Walk.{IsWalk}
use Rattle.constraint_cycles.specs.declared.node.Node.{Node}
use Rattle.constraint_cycles.specs.declared.node.Node.TheVariants.{Split, Closed, Unvisited}
use Rattle.plan_certificate.specs.Certificate.{CertificateView}

-- the greatest number of a pair, and of an item: 12 links come after 120 pairs
abbrev pub last_pair : ℕ
last_pair = 119

abbrev pub last_item : ℕ
last_item = 131

-- a junction has at most one tree for each cycle
abbrev pub most_trees : ℕ
most_trees = 300

abbrev pub longest_time : ℕ
longest_time = 300

-- the greatest numerator and denominator of the least multiplier
abbrev pub greatest_part : ℕ
greatest_part = 1000000

-- a walk of 1 to 16 groups of the junction
abbrev pub IsWalkAmong : ℕ → List ℕ → Type 0
IsWalkAmong groups walk = IsWalk walk × All (λ g. g < groups) walk

abbrev pub IsNodeAmong : ℕ → Node → Type 0
IsNodeAmong groups (Split item) = item ≤ last_item
IsNodeAmong groups (Closed walk) = IsWalkAmong groups walk
IsNodeAmong groups Unvisited = ⊤

abbrev pub IsTreeAmong : ℕ → List Node → Type 0
IsTreeAmong groups nodes = All (IsNodeAmong groups) nodes

abbrev pub AreTimes : ℕ → List ℕ → Type 0
AreTimes groups seconds = (length seconds ≡ groups) × All (λ s. s ≤ longest_time) seconds

-- a cycle of 1 to 300 seconds, and for each group a start and a green of at most 300 seconds
pub record IsPlanAmong (groups : ℕ) (p : PlanView) : Type 0 where
  pub some : 1 ≤ p.cycle
  pub cycle : p.cycle ≤ longest_time
  pub starts : AreTimes groups p.starts
  pub greens : AreTimes groups p.greens

-- in lowest terms, with parts of at most 1000000
pub record IsLeast (f : Fraction) : Type 0 where
  pub num : f.num ≤ greatest_part
  pub den : f.den ≤ greatest_part
  pub lowest : IsLowest f.num f.den

-- every part is in its range for this number of groups
pub record IsInRange (groups : ℕ) (c : CertificateView) : Type 0 where
  pub few : length c.branches ≤ most_trees
  pub trees : All (IsTreeAmong groups) c.branches
  pub budget : 1 ≤ c.budget
  pub least : IsLeast c.least
  pub plan : IfSome c.plan (IsPlanAmong groups)
