-- Edges, and the starts that meet them, depend on the needs and starts of the table's groups alone.
use Rattle.std.proofs.Common.{ℕ, List, [], ◌∷◌, ◌≡◌, ◌+◌, ◌&&◌, inl, inr, refl, ap, ◌∙◌, cond, nat_lt, None, slice_index, arith}
use Rattle.std.specs.Option.{option_map_or}
use Rattle.std.proofs.lemmas.Bool.{cases_lt, le-ltb}
use Rattle.std.proofs.lemmas.Int.{ints}
use Rattle.conflict_matrix.specs.Matrix.{Matrix, intergreen_of}
use Rattle.constraint_cycles.specs.Edge.{mark_between, pair_weight, origin_weight, links_weight, link_marks, greater, edge_weight}
use Rattle.constraint_cycles.specs.StartsLaws.{AgreeOnGroups, AgreeingLaw}
use Rattle.constraint_cycles.specs.Walk.{sum_back, sum_of}
use Rattle.constraint_cycles.specs.declared.mark.Mark.{Mark}
use Rattle.constraint_cycles.proofs.EdgeTable.{below_groups}

same_edge : (m : Matrix) (marks : List Mark) (needs others : List ℕ) (cycle u v : ℕ) → slice_index needs u ≡ slice_index others u →
    edge_weight m marks needs cycle u v ≡ edge_weight m marks others cycle u v
same_edge m marks needs others cycle u v same =
    ap (λ need. cond (nat_lt u m.groups && nat_lt v m.groups) (greater (option_map_or (λ w. pair_weight (mark_between m marks u v) (nat_lt u v) (need + w) cycle) (intergreen_of m u v) (origin_weight cycle u v))
    (links_weight (link_marks m marks) m.links cycle u v)) None) same

pub agreeing_law : AgreeingLaw
agreeing_law m marks needs others cycle starts other_starts same_needs same_starts meets = record {
  served = λ g below. let same = same_needs g below in let enough = meets.served g below in omega arith;
  edges = λ u v w is.
      let below = below_groups m marks others cycle u v w is in
      let asked = meets.edges u v w (same_edge m marks needs others cycle u v (same_needs u below.0) ∙ is) in
      let from = same_starts u below.0 in
      let to = same_starts v below.1 in
      omega (arith, ints);
}

-- the sum of a walk hangs on the needs of the table's groups alone
module _ (m : Matrix) (marks : List Mark) (needs others : List ℕ) (cycle : ℕ) (agree : AgreeOnGroups m needs others) where
  agreeing_edge : (u v : ℕ) → edge_weight m marks needs cycle u v ≡ edge_weight m marks others cycle u v
  agreeing_edge u v = elim (cases_lt u m.groups) [
    | inl inside ↦ same_edge m marks needs others cycle u v (agree u inside)
    | inr past ↦ rw (le-ltb u m.groups past) refl
  ]

  agreeing_back : (first u : ℕ) (rest : List ℕ) → sum_back (edge_weight m marks needs cycle) first u rest ≡ sum_back (edge_weight m marks others cycle) first u rest
  agreeing_back first u [] = agreeing_edge u first
  agreeing_back first u (v ∷ rest) = rw (agreeing_edge u v, agreeing_back first v rest) refl

  pub agreeing_sum : (walk : List ℕ) → sum_of (edge_weight m marks needs cycle) walk ≡ sum_of (edge_weight m marks others cycle) walk
  agreeing_sum [] = refl
  agreeing_sum (first ∷ rest) = agreeing_back first first rest
