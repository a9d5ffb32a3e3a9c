-- The edges of group 0 at the root order, and the sums by way of it.
use Rattle.std.specs.Prelude.{ℕ, ℤ, pos, Some, ◌≡◌, ◌≢◌, ◌<◌, ◌≤◌, ◌⊎◌, ◌+ℤ◌, ◌≤ℤ◌, ◌<ℤ◌}
use Rattle.constraint_cycles.specs.Edge.{Edges, IsWeight}
use Rattle.difference_system.specs.Sums.{cell_of}
use Rattle.difference_system.specs.declared.sums.root.Spokes.{Spokes}

abbrev pub out_of : Spokes → ℕ → ℤ
out_of s g = cell_of s.out g

abbrev pub home_of : Spokes → ℕ → ℤ
home_of s g = cell_of s.home g

-- the weights from group 0 to the groups below a bound, and back; none for group 0 itself
pub record AreSpokesBelow (edge : Edges) (bound : ℕ) (s : Spokes) : Type 0 where
  pub own_out : out_of s 0 ≡ pos 0
  pub own_home : home_of s 0 ≡ pos 0
  pub out : (g : ℕ) → 1 ≤ g → g < bound → edge 0 g ≡ Some (out_of s g)
  pub home : (g : ℕ) → 1 ≤ g → g < bound → edge g 0 ≡ Some (home_of s g)
  pub out_weight : (g : ℕ) → g < bound → IsWeight (out_of s g)
  pub home_weight : (g : ℕ) → g < bound → IsWeight (home_of s g)

-- they are weights
pub record AreWeights (bound : ℕ) (s : Spokes) : Type 0 where
  pub out : (g : ℕ) → g < bound → IsWeight (out_of s g)
  pub home : (g : ℕ) → g < bound → IsWeight (home_of s g)

-- no positive cycle from group 0 to a group and back
abbrev pub HasNoCycle : ℕ → Spokes → Type 0
HasNoCycle bound s = (g : ℕ) → g < bound → (out_of s g +ℤ home_of s g) ≤ℤ pos 0

-- one to this group and back
abbrev pub HasCycle : ℕ → Spokes → ℕ → Type 0
HasCycle bound s g = (g < bound) × (pos 0 <ℤ (out_of s g +ℤ home_of s g))

-- by way of group 0, and none from a group to itself
abbrev pub IsRootSum : Spokes → ℕ → ℕ → ℤ → Type 0
IsRootSum s u v sum = ((u ≡ v) × (sum ≡ pos 0)) ⊎ ((u ≢ v) × (sum ≡ home_of s u +ℤ out_of s v))
