-- The sum of the weights along a walk.
use Rattle.std.proofs.Common.{ℕ, suc, List, [], ◌∷◌, ◌≡◌, refl, Option, Some, None, length, get_or, drop, slice_index, ◌+◌, ◌*◌, ◌<◌, ◌≤◌, neg_ℤ, arith, ap, ◌∙◌, add-one, drop-cons, ℤ, pos, ◌+ℤ◌, ◌-ℤ◌, ◌≤ℤ◌}
use Rattle.std.proofs.lemmas.Int.{ints}
use Rattle.std.proofs.lemmas.List.{drop_all}
use Rattle.constraint_cycles.specs.Edge.{Edges, longest_cycle, greatest_weight, IsWeight, edge_weight}
use Rattle.constraint_cycles.specs.Starts.{MeetsEdges}
use Rattle.constraint_cycles.specs.Walk.{IsWalk, add_weights, sum_back, sum_of, IsPositiveCycle}
use Rattle.constraint_cycles.specs.WalkLaws.{ExclusionLaw}

pub parts_of_sum : (a b : Option ℤ) (sum : ℤ) → add_weights a b ≡ Some sum → (x : ℤ) × (y : ℤ) × (a ≡ Some x) × (b ≡ Some y) × (sum ≡ x +ℤ y)
parts_of_sum (Some x) (Some y) sum h = (x, y, refl, refl, cc)
parts_of_sum (Some x) None sum h = cc
parts_of_sum None b sum h = cc

-- starts that meet all edges leave a walk no more than the seconds between its ends
back_at_most : (edge : Edges) (starts : List ℕ) → MeetsEdges edge starts → (first u : ℕ) (rest : List ℕ) (sum : ℤ) → sum_back edge first u rest ≡ Some sum →
    sum ≤ℤ (pos (slice_index starts first) -ℤ pos (slice_index starts u))
back_at_most edge starts meets first u [] sum h = meets u first sum h
back_at_most edge starts meets first u (v ∷ rest) sum h =
    let parts = parts_of_sum (edge u v) (sum_back edge first v rest) sum h in
    let step = meets u v parts.0 parts.2 in
    let back = back_at_most edge starts meets first v rest parts.1 parts.3 in
    omega (arith, ints, parts.4)

pub cycle_excluded : (edge : Edges) (starts walk : List ℕ) → MeetsEdges edge starts → ¬ IsPositiveCycle edge walk
cycle_excluded edge starts [] meets h = cc (h.adds)
cycle_excluded edge starts (first ∷ rest) meets h =
    let back = back_at_most edge starts meets first first rest h.sum h.adds in
    absurd (omega (arith, ints, h.positive))

pub exclusion_law : ExclusionLaw
exclusion_law m marks needs cycle starts [] meets h = cycle_excluded (edge_weight m marks needs cycle) starts [] meets.edges h
exclusion_law m marks needs cycle starts (g ∷ []) meets h = absurd (omega (arith, meets.served g h.0, h.1))
exclusion_law m marks needs cycle starts (first ∷ (second ∷ rest)) meets h =
    cycle_excluded (edge_weight m marks needs cycle) starts (first ∷ (second ∷ rest)) meets.edges h

-- the weights from the first group to `from`, the one before this place, come to `sum`
pub record IsSummed (edge : Edges) (groups : List ℕ) (first from : ℕ) (sum : ℤ) (place : ℕ) : Type 0 where
  pub reached : place ≤ length groups
  pub few : length groups ≤ 16
  pub least : neg_ℤ (pos (longest_cycle * place)) ≤ℤ sum
  pub greatest : sum ≤ℤ pos (greatest_weight * place)
  pub so_far : sum_of edge groups ≡ add_weights (Some sum) (sum_back edge first from (drop place groups))

add_nothing : (o : Option ℤ) → o ≡ add_weights (Some (pos 0)) o
add_nothing None = refl
add_nothing (Some x) = ap Some (omega (arith, ints))

add_in_turn : (a b : ℤ) (o : Option ℤ) → add_weights (Some a) (add_weights (Some b) o) ≡ add_weights (Some (a +ℤ b)) o
add_in_turn a b None = refl
add_in_turn a b (Some x) = ap Some (omega (arith, ints))

pub summed_first : (edge : Edges) (groups : List ℕ) (first : ℕ) → IsWalk groups → first ≡ get_or groups 0 0 → IsSummed edge groups first first (pos 0) 1
summed_first edge [] first walk is = let some : 1 ≤ 0 = walk.some in absurd (omega arith)
summed_first edge (group ∷ rest) first walk is = record {
  reached = omega arith;
  few = walk.few;
  least = omega (arith, ints);
  greatest = omega (arith, ints);
  so_far = rw is (add_nothing (sum_back edge group group rest));
}

pub summed_step : (edge : Edges) (groups : List ℕ) (first from to : ℕ) (sum step : ℤ) (place : ℕ) → place < length groups → to ≡ get_or groups place 0 →
    edge from to ≡ Some step → IsWeight step → IsSummed edge groups first from sum place → IsSummed edge groups first to (sum +ℤ step) (place + 1)
summed_step edge groups first from to sum step place below at is weight h = record {
  reached = omega arith;
  few = h.few;
  least = omega (arith, ints, weight.least, h.least);
  greatest = omega (arith, ints, weight.greatest, h.greatest);
  so_far = h.so_far ∙ rw (drop-cons groups place 0 below, ← at, is, add-one) (add_in_turn sum step (sum_back edge first to (drop (suc place) groups)));
}

pub summed_last : (edge : Edges) (groups : List ℕ) (first from : ℕ) (sum step : ℤ) (place : ℕ) → length groups ≤ place → edge from first ≡ Some step →
    IsSummed edge groups first from sum place → sum_of edge groups ≡ Some (sum +ℤ step)
summed_last edge groups first from sum step place past is h = h.so_far ∙ rw (drop_all place groups past, is) refl
