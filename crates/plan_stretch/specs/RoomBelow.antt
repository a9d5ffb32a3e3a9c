-- The least room, and the longest greens, so far.
use Rattle.std.specs.Prelude.{ℕ, List, Option, None, ◌≡◌, ◌<◌, ◌≤◌, MatchOption, slice_index}
use Rattle.conflict_matrix.specs.Matrix.{intergreen_of}
use Rattle.junction_model.specs.Junction.{JunctionView}
use Rattle.plan_model.specs.SignalPlan.{PlanView}
use Rattle.plan_model.specs.Fits.{group_count}
use Rattle.plan_stretch.specs.Stretch.{IsRoom, IsLongestGreen}

abbrev pub IsApart : JunctionView → ℕ → ℕ → Type 0
IsApart junction i j = intergreen_of junction.conflicts i j ≡ None

-- what group j leaves group i, or none where the two don't conflict
abbrev pub IsRoomOrNone : JunctionView → PlanView → ℕ → ℕ → Option ℕ → Type 0
IsRoomOrNone junction p i j answer =
    MatchOption answer (IsApart junction i j) (λ room. IsRoom junction p i j room)

-- the least room of the groups below n
pub record IsLeastBelow (junction : JunctionView) (p : PlanView) (i n room : ℕ) : Type 0 where
  pub left : (j : ℕ) × (j < group_count junction) × IsRoom junction p i j room
  pub least : (j other : ℕ) → j < n → IsRoom junction p i j other → room ≤ other

abbrev pub FoundBelow : JunctionView → PlanView → ℕ → ℕ → Option ℕ → Type 0
FoundBelow junction p i n found = MatchOption found
    ((j : ℕ) → j < n → IsApart junction i j) (λ room. IsLeastBelow junction p i n room)

-- each group below n has its longest green
abbrev pub AreLongestGreens : JunctionView → PlanView → ℕ → List ℕ → Type 0
AreLongestGreens junction p n greens =
    (i : ℕ) → i < n → IsLongestGreen junction p i (slice_index greens i)
