-- The edges of an order lead from group 0 to every other group, and back.
use Rattle.std.proofs.Common.{ℕ, List, ◌+◌, ◌<◌, ◌≤◌, ◌≡◌, Bool, true, false, ℤ, pos, ◌-ℤ◌, ◌≤ℤ◌, Option, None, Some, refl, slice_get, slice_index, slice_index_or, MatchOption, IsSomeAnd, IsSome, min, cond, nat_lt, ◌&&◌, arith}
use Rattle.std.specs.Option.{option_map_or}
use Rattle.std.proofs.lemmas.Int.{ints, int_max_is}
use Rattle.std.proofs.lemmas.Bool.{lt-ltb, le-ltb, ltb-true, ne_eqb, and_parts}
use Rattle.sig_base.specs.Times.{IsCycle}
use Rattle.conflict_matrix.specs.Matrix.{Matrix, IsMatrix, intergreen_of}
use Rattle.conflict_matrix.specs.Pairs.{pairs_of, pair_number_of, lower_first}
use Rattle.conflict_matrix.specs.PairLaws.{PairNumberLaw}
use Rattle.constraint_cycles.specs.Marks.{OrderView, IsOrderFor, KeepsFixed}
use Rattle.constraint_cycles.specs.Edge.{AreNeeds, edge_weight, origin_weight, greater, mark_between, pair_weight}
use Rattle.constraint_cycles.specs.EdgeLaws.{ApartLaw}
use Rattle.constraint_cycles.specs.OrderLaws.{RootLaw}
use Rattle.constraint_cycles.specs.declared.mark.Mark.{Mark}
use Rattle.constraint_cycles.specs.declared.mark.Mark.TheVariants.{Open, First}
use Rattle.constraint_cycles.proofs.FixedMarks.{fixed_mark}
use Rattle.difference_system.specs.Edge.{IsSystem}
use Rattle.difference_system.specs.System.{groups_of, edges_of}
use Rattle.difference_system.specs.declared.system.System.{System}

mark_of : (o : OrderView) (pairs : List (ℕ × ℕ)) (pair : ℕ × ℕ) (number : Option ℕ) {C : Type 0} → ((k : ℕ) → slice_get pairs k ≡ Some pair → k < o.fixed) → KeepsFixed o →
    MatchOption number (C → ⊥) (λ k. slice_get pairs k ≡ Some pair) → C → option_map_or (λ k. slice_index_or o.marks k Open) number Open ≡ First
mark_of o pairs pair None fixed kept numbered conflicting = absurd (numbered conflicting)
mark_of o pairs pair (Some k) fixed kept numbered conflicting = fixed_mark o k kept (fixed k numbered)

-- what is asked from group 0, and back to it, by the intergreen
out_weight : (mark : Mark) (g need cycle : ℕ) (intergreen : Option ℕ) → 1 ≤ g → (IsSome intergreen → mark ≡ First) →
    IsSomeAnd (option_map_or (λ w. pair_weight mark true (need + w) cycle) intergreen (origin_weight cycle 0 g)) (λ w. pos 0 ≤ℤ w)
out_weight mark g need cycle None some first = rw (ne_eqb 0 g (λ e. absurd (omega arith))) (omega (arith, ints))
out_weight mark g need cycle (Some w) some first = rw (first refl) (omega (arith, ints))

back_weight : (mark : Mark) (g need cycle : ℕ) (intergreen : Option ℕ) → 1 ≤ g → 1 ≤ need → (IsSome intergreen → mark ≡ First) →
    IsSomeAnd (option_map_or (λ w. pair_weight mark false (need + w) cycle) intergreen (origin_weight cycle g 0)) (λ w. (pos 1 -ℤ pos cycle) ≤ℤ w)
back_weight mark g need cycle None some green first = rw (ne_eqb g 0 (λ e. absurd (omega arith))) (omega (arith, ints))
back_weight mark g need cycle (Some w) some green first = rw (first refl) (omega (arith, ints))

-- a link may ask for more, and for no less
greater_still : (least : ℤ) (a b : Option ℤ) → IsSomeAnd a (λ w. least ≤ℤ w) → IsSomeAnd (greater a b) (λ w. least ≤ℤ w)
greater_still least None b h = absurd h
greater_still least (Some a) None h = h
greater_still least (Some a) (Some b) h = let most = int_max_is a b in let asked : least ≤ℤ a = h in omega (arith, ints)

tested : (b : Bool) (x : Option ℤ) (w : ℤ) → cond b x None ≡ Some w → b ≡ true
tested true x w h = refl
tested false x w h = cc

module _ (m : Matrix) (o : OrderView) (needs : List ℕ) (cycle : ℕ) (matrix : IsMatrix m) (kept : KeepsFixed o) (order : IsOrderFor m o) (needed : AreNeeds m needs) (lasting : IsCycle cycle)
    (root : RootLaw) (number : PairNumberLaw) (apart : ApartLaw) where
  -- the pairs with group 0 are First
  first_of : (u v : ℕ) → u < m.groups → v < m.groups → min u v ≡ 0 → IsSome (intergreen_of m u v) → mark_between m o.marks u v ≡ First
  first_of u v u_in v_in least conflicting =
      mark_of o (pairs_of m) (lower_first u v) (pair_number_of m u v)
      (λ k numbered. let below = ((root m).1 k (lower_first u v) numbered).0 least in let same = order.fixed in omega arith)
      kept (number m u v matrix u_in v_in) conflicting

  within : (u v : ℕ) (w : ℤ) → edge_weight m o.marks needs cycle u v ≡ Some w → (u < m.groups) × (v < m.groups)
  within u v w h =
      let both = and_parts (nat_lt u m.groups) (nat_lt v m.groups) (tested (nat_lt u m.groups && nat_lt v m.groups) _ w h) in
      (ltb-true u m.groups both.0, ltb-true v m.groups both.1)

  pub IsSystem-edge_weight : IsSystem m.groups cycle (edge_weight m o.marks needs cycle)
  IsSystem-edge_weight = record {
    some = matrix.few.0;
    few = matrix.few.1;
    lasts = lasting.shortest;
    within = within;
    apart = λ u. apart m o.marks needs cycle u matrix;
    outward = λ g some below. let above : 0 < m.groups = omega arith in
        rw (lt-ltb 0 m.groups above, lt-ltb g m.groups below, lt-ltb 0 g some)
        (greater_still (pos 0) _ _ (out_weight (mark_between m o.marks 0 g) g (slice_index needs 0) cycle (intergreen_of m 0 g) some (first_of 0 g above below (omega arith))));
    homeward = λ g some below. let above : 0 < m.groups = omega arith in
        rw (lt-ltb 0 m.groups above, lt-ltb g m.groups below, le-ltb g 0 (omega arith))
        (greater_still (pos 1 -ℤ pos cycle) _ _ (back_weight (mark_between m o.marks g 0) g (slice_index needs g) cycle (intergreen_of m g 0) some ((needed g below).some) (first_of g 0 below above (omega arith))));
  }

pub regular_of : (s : System) → IsSystem (groups_of s) s.cycle (edges_of s)
unfolding edges_of
regular_of s = s.regular
