-- Closed walks along edges. Starts that meet all edges of a closed walk make its weights add up to 0 at most; so
-- a walk of a greater sum shows that no starts do.
use Rattle.std.specs.Prelude.{ℕ, List, [], ◌∷◌, length, ℤ, pos, Option, None, Some, ◌≡◌, ◌+ℤ◌, ◌<ℤ◌, ◌<◌, ◌≤◌, All}
use Rattle.constraint_cycles.specs.Edge.{Edges}

-- the groups of a walk, whose last step goes back to the first group
pub record IsWalk (groups : List ℕ) : Type 0 where
  pub some : 1 ≤ length groups
  pub few : length groups ≤ 16
  pub within : All (λ g. g < 16) groups

-- their sum; none where one of the two is missing
abbrev pub add_weights : Option ℤ → Option ℤ → Option ℤ
add_weights (Some a) (Some b) = Some (a +ℤ b)
add_weights _ _ = None

-- the sum of the weights from group u along the rest and back to the first; none where a step has no edge
abbrev pub sum_back : Edges → ℕ → ℕ → List ℕ → Option ℤ
sum_back edge first u [] = edge u first
sum_back edge first u (v ∷ rest) = add_weights (edge u v) (sum_back edge first v rest)

-- the sum of the weights of all steps
abbrev pub sum_of : Edges → List ℕ → Option ℤ
sum_of edge [] = None
sum_of edge (first ∷ rest) = sum_back edge first first rest

-- each step has an edge, and the weights add up to more than 0
pub record IsPositiveCycle (edge : Edges) (groups : List ℕ) : Type 0 where
  pub walk : IsWalk groups
  pub sum : ℤ
  pub adds : sum_of edge groups ≡ Some sum
  pub positive : pos 0 <ℤ sum
