-- Clear plans, and plans that fit, by gaps: the seconds from a group's start to the next start of a conflicting one.
-- Forth: where the gap from i to j is shorter than i's green and the intergreen, j starts at most the intergreen after
-- the last second of i's green that the gap holds, so that second clashes. Back: the gaps from i to j and from j to i add
-- up to a cycle at most, and j's green ends within the gap back; so, counted from i's start, each second of j's green
-- comes no earlier than j's start, when i's green and the intergreen are over.
-- A pass over the ordered pairs thus tells what the definition asks of each second of the cycle. `fits` tries the
-- seconds; that a rotated plan fits, and one that meets a full order, is proved by gaps.
use Rattle.std.specs.Prelude.{ℕ, Some, ◌≡◌, ◌+◌, ◌-◌, ◌%◌, ◌<◌, ◌≤◌, ◌↔◌, All, slice_get}
use Rattle.conflict_matrix.specs.Matrix.{intergreen_of}
use Rattle.junction_model.specs.declared.group.Group.{Group}
use Rattle.junction_model.specs.Junction.{JunctionView}
use Rattle.junction_model.specs.Rules.{IsJunction}
use Rattle.plan_model.specs.SignalPlan.{PlanView, start_of, green_of}
use Rattle.plan_model.specs.Fits.{HasEachGroup, IsWithinLimits, IsClear, KeepsLink, Fits, group_count}

-- seconds from the start of group i to the next start of group j
abbrev pub gap : PlanView → ℕ → ℕ → ℕ
gap p i j = (start_of p j + p.cycle - start_of p i) % p.cycle

-- for each ordered pair of conflicting groups, the green and the intergreen end by the next start
abbrev pub HasGaps : JunctionView → PlanView → Type 0
HasGaps junction p = (i j w : ℕ) → i < group_count junction → j < group_count junction →
    intergreen_of junction.conflicts i j ≡ Some w → green_of p i + w ≤ gap p i j

-- each group starts once in the cycle and is green for at least a second
pub record IsShown (junction : JunctionView) (p : PlanView) : Type 0 where
  pub groups : HasEachGroup junction p
  pub cycle : 1 ≤ p.cycle
  pub starts : All (λ start. start < p.cycle) p.starts
  pub greens : All (λ green. 1 ≤ green) p.greens

abbrev pub GapLaw : Type 0
GapLaw = (junction : JunctionView) (p : PlanView) → IsJunction junction → IsShown junction p → IsClear junction p ↔ HasGaps junction p

-- the rules of a plan that fits, with gaps in place of seconds
pub record IsSpaced (junction : JunctionView) (p : PlanView) : Type 0 where
  pub groups : HasEachGroup junction p
  pub cycle : IsWithinLimits junction p
  pub starts : All (λ start. start < p.cycle) p.starts
  pub greens : (i : ℕ) (group : Group) → slice_get junction.groups i ≡ Some group → group.times.min_green ≤ green_of p i
  pub longest : (i : ℕ) (group : Group) → slice_get junction.groups i ≡ Some group → green_of p i ≤ group.times.max_green
  pub gaps : HasGaps junction p
  pub links : All (KeepsLink p) junction.conflicts.links

abbrev pub SpacingLaw : Type 0
SpacingLaw = (junction : JunctionView) (p : PlanView) → IsJunction junction → Fits junction p ↔ IsSpaced junction p
