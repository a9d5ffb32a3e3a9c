-- The edges of a difference system among the groups of a junction.
use Rattle.std.specs.Prelude.{ℕ, List, ℤ, pos, None, Some, ◌≡◌, ◌≢◌, ◌<◌, ◌≤◌, ◌-ℤ◌, ◌≤ℤ◌, IsSomeAnd, All}
use Rattle.std.specs.List.{Contains}
use Rattle.constraint_cycles.specs.Edge.{Edges, IsWeight}
use Rattle.difference_system.specs.declared.edge.Edge.{Edge}

-- edges are among 2 to 16 groups, and none leads from a group to itself; from group 0 edges of no negative weight
-- lead to every other group, and from every other group an edge leads back that keeps it within the cycle
pub record IsSystem (groups cycle : ℕ) (edge : Edges) : Type 0 where
  pub some : 2 ≤ groups
  pub few : groups ≤ 16
  pub lasts : 1 ≤ cycle
  pub within : (u v : ℕ) (w : ℤ) → edge u v ≡ Some w → (u < groups) × (v < groups)
  pub apart : (u : ℕ) → edge u u ≡ None
  pub outward : (g : ℕ) → 1 ≤ g → g < groups → IsSomeAnd (edge 0 g) (λ w. pos 0 ≤ℤ w)
  pub homeward : (g : ℕ) → 1 ≤ g → g < groups → IsSomeAnd (edge g 0) (λ w. (pos 1 -ℤ pos cycle) ≤ℤ w)

-- an edge of the system, from one group to another
pub record IsEdge (groups : ℕ) (edge : Edges) (e : Edge) : Type 0 where
  pub is : edge e.from e.to ≡ Some e.weight
  pub from : e.from < groups
  pub to : e.to < groups
  pub apart : e.from ≢ e.to
  pub weight : IsWeight e.weight

-- the edge from one group to another
pub record IsEdgeFrom (groups : ℕ) (edge : Edges) (u v : ℕ) (e : Edge) : Type 0 where
  pub edge_is : IsEdge groups edge e
  pub from : e.from ≡ u
  pub to : e.to ≡ v

-- what an edge of a weight is as a value
abbrev pub edge_of : ℕ → ℕ → ℤ → Edge
edge_of u v w = record { from = u; to = v; weight = w }

-- they are edges, and all those that begin at the groups from 1 up to a bound
pub record AreEdgesBelow (groups : ℕ) (edge : Edges) (bound : ℕ) (es : List Edge) : Type 0 where
  pub edges : All (IsEdge groups edge) es
  pub whole : (u v : ℕ) (w : ℤ) → 1 ≤ u → u < bound → edge u v ≡ Some w → Contains es (edge_of u v w)

-- and those from the bound itself to the groups below another bound
pub record AreEdgesInRow (groups : ℕ) (edge : Edges) (from to : ℕ) (es : List Edge) : Type 0 where
  pub before : AreEdgesBelow groups edge from es
  pub row : (v : ℕ) (w : ℤ) → v < to → edge from v ≡ Some w → Contains es (edge_of from v w)
