-- Plans whose greens are as long as their starts allow.
use Rattle.std.specs.Prelude.{ℕ, length, min, Some, ◌≡◌, ◌+◌, ◌<◌, ◌≤◌, slice_get}
use Rattle.conflict_matrix.specs.Matrix.{intergreen_of}
use Rattle.junction_model.specs.declared.group.Group.{Group}
use Rattle.junction_model.specs.Junction.{JunctionView}
use Rattle.plan_model.specs.SignalPlan.{PlanView, green_of}
use Rattle.plan_model.specs.Fits.{Fits, group_count}
use Rattle.plan_model.specs.Gap.{gap}

-- group j conflicts with group i, and leaves it a green of so many seconds: after it the intergreen
-- ends at j's next start
abbrev pub IsRoom : JunctionView → PlanView → ℕ → ℕ → ℕ → Type 0
IsRoom junction p i j room =
    (w : ℕ) × (intergreen_of junction.conflicts i j ≡ Some w) × (room + w ≡ gap p i j)

-- the least green that a conflicting group leaves group i
pub record IsLeastRoom (junction : JunctionView) (p : PlanView) (i room : ℕ) : Type 0 where
  pub left : (j : ℕ) × (j < group_count junction) × IsRoom junction p i j room
  pub least : (j other : ℕ) → j < group_count junction → IsRoom junction p i j other → room ≤ other

-- the lesser of group i's maximum green and the least room
pub record IsLongestGreen (junction : JunctionView) (p : PlanView) (i green : ℕ) : Type 0 where
  pub group : Group
  pub there : slice_get junction.groups i ≡ Some group
  pub room : ℕ
  pub left : IsLeastRoom junction p i room
  pub value : green ≡ min group.times.max_green room

-- a plan is stretched where it fits and each green is the longest one
pub record IsStretched (junction : JunctionView) (p : PlanView) : Type 0 where
  pub fits : Fits junction p
  pub longest : (i : ℕ) → i < group_count junction → IsLongestGreen junction p i (green_of p i)

-- the cycle and the starts of p, and for each group the longest green that they allow
pub record IsStretchOf (junction : JunctionView) (p q : PlanView) : Type 0 where
  pub cycle : q.cycle ≡ p.cycle
  pub starts : q.starts ≡ p.starts
  pub groups : length q.greens ≡ group_count junction
  pub longest : (i : ℕ) → i < group_count junction → IsLongestGreen junction p i (green_of q i)
