-- Edges of greater weights, and a walk that closes an order with the smaller ones.
use Rattle.std.proofs.Common.{ℕ, List, [], ◌∷◌, ◌≡◌, ◌≤◌, ◌⊎◌, inl, inr, refl, Bool, true, false, cond, Option, Some, None, if◌then◌else◌, ◌==◌, ◌%◌, suc, length, get_or, slice_index, nat_lt, ◌&&◌, ◌+◌, arith, ℤ, pos, ◌+ℤ◌, ◌-ℤ◌, ◌≤ℤ◌}
use Rattle.std.specs.Option.{option_map_or}
use Rattle.std.proofs.lemmas.Int.{ints}
use Rattle.conflict_matrix.specs.Matrix.{Matrix, intergreen_of}
use Rattle.conflict_matrix.specs.Pairs.{pairs_of, pair_number_of}
use Rattle.conflict_matrix.specs.declared.link.Link.{Link}
use Rattle.constraint_cycles.specs.Edge.{Edges, mark_between, pair_weight, origin_weight, link_weight, greater, links_weight, link_marks, edge_weight}
use Rattle.constraint_cycles.specs.Walk.{add_weights, sum_back, IsPositiveCycle}
use Rattle.constraint_cycles.specs.Closing.{Closes}
use Rattle.constraint_cycles.specs.Marks.{Refines}
use Rattle.constraint_cycles.specs.WalkLaws.{NeedNoLess}
use Rattle.constraint_cycles.specs.declared.mark.Mark.{Mark}
use Rattle.constraint_cycles.specs.declared.mark.Mark.TheVariants.{Open, First, Second}
use Rattle.constraint_cycles.proofs.EdgeTable.{both_below}
use Rattle.constraint_cycles.proofs.Greater.{greater_is, greater_first, greater_second}
use Rattle.constraint_cycles.proofs.Refinement.{read_refined, refined_later, refined_past}
use Rattle.constraint_cycles.proofs.Sums.{parts_of_sum}

-- where there is the first weight, there is the second, and no smaller
abbrev pub AtLeast : Option ℤ → Option ℤ → Type 0
AtLeast x y = (w : ℤ) → x ≡ Some w → (v : ℤ) × (y ≡ Some v) × (w ≤ℤ v)

sum_rises : (a b c d : Option ℤ) → AtLeast a c → AtLeast b d → AtLeast (add_weights a b) (add_weights c d)
sum_rises a b c d p q sum h =
    let parts = parts_of_sum a b sum h in
    let left = p parts.0 parts.2 in
    let right = q parts.1 parts.3 in
    (left.0 +ℤ right.0, rw (left.1, right.1) refl, omega (arith, ints, parts.4, left.2, right.2))

back_rises : (edge more : Edges) → ((u v : ℕ) → AtLeast (edge u v) (more u v)) → (first u : ℕ) (rest : List ℕ) →
    AtLeast (sum_back edge first u rest) (sum_back more first u rest)
back_rises edge more rises first u [] = rises u first
back_rises edge more rises first u (v ∷ rest) = sum_rises _ _ _ _ (rises u v) (back_rises edge more rises first v rest)

cycle_rises : (edge more : Edges) → ((u v : ℕ) → AtLeast (edge u v) (more u v)) → (walk : List ℕ) → IsPositiveCycle edge walk → IsPositiveCycle more walk
cycle_rises edge more rises [] h = cc (h.adds)
cycle_rises edge more rises (first ∷ rest) h =
    let risen = back_rises edge more rises first first rest h.sum h.adds in
    record { walk = h.walk; sum = risen.0; adds = risen.1; positive = omega (arith, ints, risen.2, h.positive) }

pub closes_rises : (m : Matrix) (marks finer : List Mark) (needs more : List ℕ) (cycle : ℕ) → NeedNoLess m needs more →
    ((u v : ℕ) → AtLeast (edge_weight m marks needs cycle u v) (edge_weight m finer more cycle u v)) →
    (walk : List ℕ) → Closes m marks needs cycle walk → Closes m finer more cycle walk
closes_rises m marks finer needs more cycle no_less rises [] h = cycle_rises _ _ rises [] h
closes_rises m marks finer needs more cycle no_less rises (g ∷ []) h = (h.0, let less = no_less g h.0 in let unserved = h.1 in omega arith)
closes_rises m marks finer needs more cycle no_less rises (first ∷ (second ∷ rest)) h = cycle_rises _ _ rises (first ∷ (second ∷ rest)) h

pair_rises : (mark : Mark) (u_is_lower : Bool) (some more cycle : ℕ) → some ≤ more → AtLeast (pair_weight mark u_is_lower some cycle) (pair_weight mark u_is_lower more cycle)
pair_rises Open u_is_lower some more cycle h w e = cc
pair_rises First true some more cycle h w e = let is : pos some ≡ w = cc in (pos more, refl, omega (arith, ints))
pair_rises First false some more cycle h w e = let is : pos some -ℤ pos cycle ≡ w = cc in (pos more -ℤ pos cycle, refl, omega (arith, ints))
pair_rises Second true some more cycle h w e = let is : pos some -ℤ pos cycle ≡ w = cc in (pos more -ℤ pos cycle, refl, omega (arith, ints))
pair_rises Second false some more cycle h w e = let is : pos some ≡ w = cc in (pos more, refl, omega (arith, ints))

same_weight : (o : Option ℤ) → AtLeast o o
same_weight o w e = (w, e, omega (arith, ints))

group_rises : (intergreen : Option ℕ) (f g : ℕ → Option ℤ) (free : Option ℤ) → ((w : ℕ) → AtLeast (f w) (g w)) →
    AtLeast (option_map_or f intergreen free) (option_map_or g intergreen free)
group_rises None f g free h = same_weight free
group_rises (Some intergreen) f g free h = h intergreen

greater_rises : (a b c d : Option ℤ) → AtLeast a c → AtLeast b d → AtLeast (greater a b) (greater c d)
greater_rises a b c d p q w e = elim (greater_is a b w e) [
  | inl left ↦ let more = p w left in greater_first c d more.0 w more.1 more.2
  | inr right ↦ let more = q w right in greater_second c d more.0 w more.1 more.2
]

edge_rises : (inside : Bool) (a b c d : Option ℤ) → (inside ≡ true → AtLeast a c) → AtLeast b d → AtLeast (cond inside (greater a b) None) (cond inside (greater c d) None)
edge_rises false a b c d p q w e = cc
edge_rises true a b c d p q w e = greater_rises a b c d (p refl) q w e

pub need_rises : (m : Matrix) (marks : List Mark) (needs more : List ℕ) (cycle : ℕ) → NeedNoLess m needs more → (u v : ℕ) →
    AtLeast (edge_weight m marks needs cycle u v) (edge_weight m marks more cycle u v)
need_rises m marks needs more cycle no_less u v =
    edge_rises (nat_lt u m.groups && nat_lt v m.groups) _ _ _ _
    (λ inside. group_rises (intergreen_of m u v) _ _ (origin_weight cycle u v)
    (λ w.
    let less = no_less u (both_below u v m.groups inside).0 in
    pair_rises (mark_between m marks u v) (nat_lt u v) (slice_index needs u + w) (slice_index more u + w) cycle (omega arith)))
    (same_weight (links_weight (link_marks m marks) m.links cycle u v))

pair_refined : (o : Option ℕ) (marks finer : List Mark) → Refines marks finer →
    (option_map_or (λ k. get_or marks k Open) o Open ≡ Open) ⊎ (option_map_or (λ k. get_or finer k Open) o Open ≡ option_map_or (λ k. get_or marks k Open) o Open)
pair_refined None marks finer h = inl refl
pair_refined (Some k) marks finer h = read_refined marks finer k h

link_refined : (mark finer : Mark) (u_leads : Bool) (wait cycle : ℕ) → (mark ≡ Open) ⊎ (finer ≡ mark) → AtLeast (link_weight mark u_leads wait cycle) (link_weight finer u_leads wait cycle)
link_refined mark finer u_leads wait cycle (inl before) w e = absurd (cc (rw before at e))
link_refined mark finer u_leads wait cycle (inr same) w e = rw same (w, e, omega (arith, ints))

either_refined : (leads follows : Bool) (a b c d : Option ℤ) → AtLeast a c → AtLeast b d →
    AtLeast (if leads then a else if follows then b else None) (if leads then c else if follows then d else None)
either_refined true follows a b c d p q w e = p w e
either_refined false true a b c d p q w e = q w e
either_refined false false a b c d p q w e = cc

links_refined : (marks finer : List Mark) (links : List Link) (cycle u v : ℕ) → Refines marks finer → AtLeast (links_weight marks links cycle u v) (links_weight finer links cycle u v)
links_refined marks finer [] cycle u v h w e = cc
links_refined [] finer (link ∷ links) cycle u v h w e = cc
links_refined (mark ∷ marks) [] (link ∷ links) cycle u v h w e = let as_many : 0 ≡ suc (length marks) = h.as_many in absurd (omega arith)
links_refined (mark ∷ marks) (other ∷ finer) (link ∷ links) cycle u v h w e =
    let here : (mark ≡ Open) ⊎ (other ≡ mark) = read_refined (mark ∷ marks) (other ∷ finer) 0 h in
    greater_rises _ _ _ _
    (either_refined (u == link.leader && v == link.follower) (u == link.follower && v == link.leader) _ _ _ _
    (link_refined mark other true (link.after % cycle) cycle here) (link_refined mark other false (link.after % cycle) cycle here))
    (links_refined marks finer links cycle u v (refined_later mark other marks finer h)) w e

pub refinement_rises : (m : Matrix) (marks finer : List Mark) (needs : List ℕ) (cycle : ℕ) → Refines marks finer → (u v : ℕ) →
    AtLeast (edge_weight m marks needs cycle u v) (edge_weight m finer needs cycle u v)
refinement_rises m marks finer needs cycle h u v =
    edge_rises (nat_lt u m.groups && nat_lt v m.groups) _ _ _ _
    (λ inside. group_rises (intergreen_of m u v) _ _ (origin_weight cycle u v)
    (λ w weight e.
    elim (pair_refined (pair_number_of m u v) marks finer h) [
      | inl before ↦ absurd (cc (rw before at e))
      | inr same ↦ rw same (weight, e, omega (arith, ints))
    ]))
    (links_refined (link_marks m marks) (link_marks m finer) m.links cycle u v (refined_past (length (pairs_of m)) marks finer h))
