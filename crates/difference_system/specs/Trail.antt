-- Trails of edges, which ask for starts.
use Rattle.std.specs.Prelude.{ℕ, List, [], ◌∷◌, length, pos, ℤ, Some, ◌≡◌, ◌==◌, ◌*◌, ◌<◌, ◌≤◌, ◌+ℤ◌, All, if◌then◌else◌, slice_index}
use Rattle.std.specs.List.{IsDistinct}
use Rattle.constraint_cycles.specs.Edge.{Edges, greatest_weight}

-- the groups, the last one first, lead from group 0 along edges whose weights add up to `sum`; each of them starts
-- no earlier than the sum of the weights up to it
abbrev pub IsTrail : Edges → List ℕ → List ℕ → ℕ → Type 0
IsTrail edge starts [] sum = ⊥
IsTrail edge starts (g ∷ []) sum = (g ≡ 0) × (sum ≡ 0) × (sum ≤ slice_index starts g)
IsTrail edge starts (g ∷ (f ∷ rest)) sum =
    (w : ℤ) × (earlier : ℕ) × (edge f g ≡ Some w) × (pos sum ≡ pos earlier +ℤ w) × (sum ≤ slice_index starts g) × IsTrail edge starts (f ∷ rest) earlier

-- a trail that ends with the group and asks for its start
pub record HasTrail (edge : Edges) (groups : ℕ) (starts : List ℕ) (g : ℕ) (trail : List ℕ) : Type 0 where
  pub before : List ℕ
  pub ends : trail ≡ g ∷ before
  pub asks : IsTrail edge starts (g ∷ before) (slice_index starts g)
  pub once : IsDistinct (λ f h. f == h) (g ∷ before)
  pub within : All (λ h. h < groups) (g ∷ before)
  pub early : slice_index starts g ≤ greatest_weight * length before

-- the groups from the end of a trail back to a group on it, in front of a list
abbrev pub cut : ℕ → List ℕ → List ℕ → List ℕ
cut first [] walk = walk
cut first (g ∷ before) walk = if first == g then g ∷ walk else cut first before (g ∷ walk)
