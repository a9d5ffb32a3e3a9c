-- The groups that a walk passes, where each step has an edge.
use Rattle.std.proofs.Common.{ℕ, List, [], ◌∷◌, ◌≡◌, ◌<◌, Some, ℤ}
use Rattle.std.specs.List.{All}
use Rattle.std.proofs.lemmas.List.Elements.{All-nil, All-cons}
use Rattle.constraint_cycles.specs.Edge.{Edges, edge_weight}
use Rattle.constraint_cycles.specs.Walk.{sum_back}
use Rattle.constraint_cycles.specs.WalkLaws.{WalkGroupsLaw}
use Rattle.constraint_cycles.proofs.EdgeTable.{below_groups}
use Rattle.constraint_cycles.proofs.Sums.{parts_of_sum}

-- an edge leaves only such groups
abbrev pub Leave : (ℕ → Type 0) → Edges → Type 0
Leave P edge = (u v : ℕ) (w : ℤ) → edge u v ≡ Some w → P u

back_passes : (P : ℕ → Type 0) (edge : Edges) → Leave P edge → (first u : ℕ) (rest : List ℕ) (sum : ℤ) → sum_back edge first u rest ≡ Some sum → All P (u ∷ rest)
back_passes P edge leave first u [] sum h = All-cons P u [] (leave u first sum h) (All-nil P)
back_passes P edge leave first u (v ∷ rest) sum h =
    let parts = parts_of_sum (edge u v) (sum_back edge first v rest) sum h in
    All-cons P u (v ∷ rest) (leave u v parts.0 parts.2) (back_passes P edge leave first v rest parts.1 parts.3)

pub walk_groups_law : WalkGroupsLaw
walk_groups_law m marks needs cycle [] h = All-nil (λ g. g < m.groups)
walk_groups_law m marks needs cycle (g ∷ []) h = All-cons (λ g. g < m.groups) g [] h.0 (All-nil (λ g. g < m.groups))
walk_groups_law m marks needs cycle (first ∷ (second ∷ rest)) h =
    back_passes (λ g. g < m.groups) (edge_weight m marks needs cycle) (λ u v w edge. (below_groups m marks needs cycle u v w edge).0)
    first first (second ∷ rest) h.sum h.adds
