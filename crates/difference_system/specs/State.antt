-- Starts with their trails.
use Rattle.std.specs.Prelude.{ℕ, List, [], ◌∷◌, length, ℤ, pos, Some, ◌≡◌, ◌*◌, ◌-◌, ◌<◌, ◌≤◌, ◌≤ℤ◌, replicate, slice_index, slice_index_or, slice_set}
use Rattle.std.specs.List.{sum_by}
use Rattle.constraint_cycles.specs.Edge.{Edges, greatest_weight}
use Rattle.difference_system.specs.Trail.{HasTrail}
use Rattle.difference_system.specs.declared.state.State.{State}

abbrev pub start_of : State → ℕ → ℕ
start_of s g = slice_index s.starts g

-- the groups of its trail, the last one first
abbrev pub trail_of : State → ℕ → List ℕ
trail_of s g = slice_index_or s.trails g []

-- every group starts at second 0, with the trail of group 0
abbrev pub blank : State
blank = record { starts = replicate 16 0; trails = replicate 16 (0 ∷ []) }

-- one group has another start and another trail
abbrev pub with_start : State → ℕ → ℕ → List ℕ → State
with_start s g start trail = record { starts = slice_set s.starts g start; trails = slice_set s.trails g trail }

-- group 0 starts at second 0; groups below a bound have trails, and start no earlier than the edges from group 0
-- ask; all others start at second 0
pub record IsStateBelow (edge : Edges) (groups bound : ℕ) (s : State) : Type 0 where
  pub full : (length s.starts ≡ 16) × (length s.trails ≡ 16)
  pub origin : start_of s 0 ≡ 0
  pub trails : (g : ℕ) → g < bound → HasTrail edge groups s.starts g (trail_of s g)
  pub outward : (g : ℕ) (w : ℤ) → g < bound → edge 0 g ≡ Some w → w ≤ℤ pos (start_of s g)
  pub unused : (g : ℕ) → bound ≤ g → start_of s g ≡ 0

-- so it is of all groups
abbrev pub IsState : Edges → ℕ → State → Type 0
IsState edge groups = IsStateBelow edge groups groups

-- no trail asks for more: it passes each of at most 16 groups once, so it has at most 15 edges
abbrev pub latest_start : ℕ
latest_start = 15 * greatest_weight

-- how far the starts can rise
abbrev pub shortfall : State → ℕ
shortfall s = sum_by (λ start. latest_start - start) s.starts
