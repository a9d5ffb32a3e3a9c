-- Exactly one mark of each item fits the starts of a plan.
use Rattle.std.proofs.Common.{ℕ, List, ◌≡◌, ◌≢◌, ◌<◌, ◌≤◌, ◌+◌, ◌-◌, ◌%◌, ◌⊎◌, inl, inr, refl, sym, ap, ◌∙◌, subst, min, max, map, length, replicate, get_or, Bool, true, false, nat_lt, nat_le, if◌then◌else◌, Option, Some, None, IsSomeAnd, slice_get, slice_index, arith, ℤ, pos, ◌-ℤ◌, ◌≤ℤ◌}
use Rattle.std.proofs.lemmas.Int.{ints}
use Rattle.std.proofs.lemmas.Bool.{cases_lt, lt-ltb, le-ltb, le-leb, lt-leb, eq-eqb, ne_eqb, eqb-true}
use Rattle.std.proofs.lemmas.List.{length-map, length-append, length-replicate, get_or-replicate}
use Rattle.std.proofs.lemmas.List.Elements.{All-append, All-map, All-get_or}
use Rattle.std.proofs.lemmas.Option.{slice_get_within, slice_get-get_or, get_or_from_slice_get, same_Some}
use Rattle.std.proofs.Math.Nat.{mod-lt}
use Rattle.conflict_matrix.specs.Matrix.{Matrix, AreConflicting, intergreen_of}
use Rattle.conflict_matrix.specs.Links.{IsWithin}
use Rattle.conflict_matrix.specs.Pairs.{pairs_of, has_group_0, lower_first}
use Rattle.conflict_matrix.specs.PairLaws.{PairLaw}
use Rattle.conflict_matrix.specs.declared.link.Link.{Link}
use Rattle.constraint_cycles.specs.Marks.{root_mark, root_marks, item_count, Refines, IsDecided}
use Rattle.constraint_cycles.specs.Edge.{pair_weight, link_weight, linked_weight, edge_weight}
use Rattle.constraint_cycles.specs.EdgeLaws.{ItemAsks, IsAsked, AskedLaw, GreatestLaw, ApartLaw}
use Rattle.constraint_cycles.specs.Starts.{MeetsOrder}
use Rattle.constraint_cycles.specs.declared.mark.Mark.{Mark}
use Rattle.constraint_cycles.specs.declared.mark.Mark.TheVariants.{Open, First, Second}
use Rattle.junction_model.specs.Junction.{JunctionView}
use Rattle.plan_model.specs.SignalPlan.{PlanView, start_of, green_of}
use Rattle.plan_model.specs.Fits.{group_count}
use Rattle.plan_model.specs.Gap.{gap}
use Rattle.plan_model.specs.OwnOrder.{pair_mark_of, link_mark_of, own_marks, BeginsWithGroup0, HasNeeds, OwnOrderLaw, OneMarkLaw}
use Rattle.plan_model.proofs.Phase.{IsOnce, once}
use Rattle.sig_base.proofs.Option.{some_value}
use Rattle.plan_model.proofs.IsShown.{start_in, shown_green}
use Rattle.plan_model.proofs.Gaps.{gaps_of_clear}
use Rattle.plan_model.proofs.GreenBelowCycle.{green_most}
use Rattle.plan_model.proofs.OwnOrder.{mapped_at, past_front, own_pair, own_link, no_gap, shown, asked_met, own_met}

either_decided : (b : Bool) → (if b then First else Second) ≢ Open
either_decided true = λ e. cc
either_decided false = λ e. cc

own_decided : (junction : JunctionView) (p : PlanView) → IsDecided (own_marks junction p)
own_decided junction p = All-append (λ mark. mark ≢ Open) (map (pair_mark_of p) (pairs_of junction.conflicts)) (map (link_mark_of p) junction.conflicts.links)
    (All-map (λ mark. mark ≢ Open) (pair_mark_of p) (pairs_of junction.conflicts) (λ k d h. either_decided _))
    (All-map (λ mark. mark ≢ Open) (link_mark_of p) junction.conflicts.links (λ k d h. either_decided _))

-- an item is a pair or a link
item_cases : (pairs : List (ℕ × ℕ)) (links : List Link) (k : ℕ) → k < length pairs + length links →
    ((pair : ℕ × ℕ) × (slice_get pairs k ≡ Some pair)) ⊎ ((n : ℕ) × (link : Link) × (k ≡ length pairs + n) × (slice_get links n ≡ Some link))
item_cases pairs links k within = elim (cases_lt k (length pairs)) [
  | inl below ↦ inl (get_or pairs k (0, 0), slice_get-get_or pairs k (0, 0) below)
  | inr past ↦
      let d : Link = record { leader = 0; follower = 0; after = 0 } in
      inr (k - length pairs, get_or links (k - length pairs) d, omega arith, slice_get-get_or links (k - length pairs) d (omega arith))
]

root_open : (n k : ℕ) (mark : Mark) → slice_get (replicate n Open) k ≡ Some mark → mark ≡ Open
root_open n k mark at =
    let within : k < n = let inside = slice_get_within (replicate n Open) k mark at in let size = length-replicate {A = Mark} n Open in omega arith in
    sym (get_or_from_slice_get (replicate n Open) k mark Open at) ∙ get_or-replicate n k Open Open within

own_length : (junction : JunctionView) (p : PlanView) → length (own_marks junction p) ≡ item_count junction.conflicts
own_length junction p = simp (length-append, length-map)

root_length : (m : Matrix) → length (root_marks m) ≡ item_count m
root_length m = simp (length-append, length-map, length-replicate)

first_of : (b : Bool) (mark : Mark) → (if b then First else Open) ≡ mark → mark ≢ Open → (b ≡ true) × (First ≡ mark)
first_of true mark is decided = (refl, is)
first_of false mark is decided = absurd (decided (sym is))

at_most : (o : Option ℤ) (w most : ℤ) → IsSomeAnd o (λ x. w ≤ℤ x) → ((x : ℤ) → o ≡ Some x → x ≤ℤ most) → w ≤ℤ most
at_most None w most some h = absurd some
at_most (Some x) w most some h = let less : w ≤ℤ x = some in let more = h x refl in omega (arith, ints)

-- what an item asks by its mark, starts that meet the order leave
pub asks_left : GreatestLaw → (m : Matrix) (marks : List Mark) (needs : List ℕ) (cycle : ℕ) (starts : List ℕ) (item : ℕ) (mark : Mark) (u v : ℕ) (w : ℤ) →
    MeetsOrder m marks needs cycle starts → slice_get marks item ≡ Some mark → u < m.groups → v < m.groups → ItemAsks m item mark needs cycle u v w →
    w ≤ℤ (pos (slice_index starts v) -ℤ pos (slice_index starts u))
asks_left greatest m marks needs cycle starts item mark u v w meets marked below_u below_v asks =
    at_most (edge_weight m marks needs cycle u v) w _
    (greatest m marks needs cycle u v w below_u below_v (inl (record { item = item; mark = mark; marked = marked; asks = asks })))
    (λ x is. meets.edges u v x is)

pub lower_rising : (i j : ℕ) → i < j → lower_first i j ≡ (i, j)
lower_rising i j h = let low : min i j ≡ i = omega arith in let high : max i j ≡ j = omega arith in rw (low, high) refl

pub lower_falling : (i j : ℕ) → i < j → lower_first j i ≡ (i, j)
lower_falling i j h = let low : min j i ≡ i = omega arith in let high : max j i ≡ j = omega arith in rw (low, high) refl

-- the mark of a pair whose edges the starts s and r meet
fitting : (s r c forth back : ℕ) (mark : Mark) → mark ≢ Open → 1 ≤ forth → 1 ≤ back →
    ((w : ℤ) → pair_weight mark true forth c ≡ Some w → w ≤ℤ (pos r -ℤ pos s)) → ((w : ℤ) → pair_weight mark false back c ≡ Some w → w ≤ℤ (pos s -ℤ pos r)) →
    (if nat_lt s r then First else Second) ≡ mark
fitting s r c forth back Open decided some more there again = absurd (decided refl)
fitting s r c forth back First decided some more there again = let asked = there (pos forth) refl in let less : s < r = omega (arith, ints) in rw (lt-ltb s r less) refl
fitting s r c forth back Second decided some more there again = let asked = again (pos back) refl in let less : r ≤ s = omega (arith, ints) in rw (le-ltb s r less) refl

linking : (s r c wait : ℕ) (mark : Mark) → mark ≢ Open → wait < c →
    ((w : ℤ) → link_weight mark true wait c ≡ Some w → w ≤ℤ (pos r -ℤ pos s)) → ((w : ℤ) → link_weight mark false wait c ≡ Some w → w ≤ℤ (pos s -ℤ pos r)) →
    (if nat_le s r then First else Second) ≡ mark
linking s r c wait Open decided less there again = absurd (decided refl)
linking s r c wait First decided less there again = let asked = there (pos wait) refl in let behind : s ≤ r = omega (arith, ints) in rw (le-leb s r behind) refl
linking s r c wait Second decided less there again = let asked = again (pos c -ℤ pos wait) refl in let passed : r < s = omega (arith, ints) in rw (lt-leb s r passed) refl

pair_decides : (mark : Mark) (lower : Bool) (wait c : ℕ) (w : ℤ) → pair_weight mark lower wait c ≡ Some w → mark ≢ Open
pair_decides Open lower wait c w h = cc
pair_decides First lower wait c w h = λ e. cc
pair_decides Second lower wait c w h = λ e. cc

no_link : (first second : Bool) (w : ℤ) → (if first then None else if second then None else None) ≡ Some w → ⊥
no_link true second w h = cc
no_link false true w h = cc
no_link false false w h = cc

link_decides : (mark : Mark) (link : Link) (c u v : ℕ) (w : ℤ) → linked_weight mark link c u v ≡ Some w → mark ≢ Open
link_decides Open link c u v w h = absurd (no_link _ _ w h)
link_decides First link c u v w h = λ e. cc
link_decides Second link c u v w h = λ e. cc

module _ (junction : JunctionView) (p : PlanView) (begins : BeginsWithGroup0 junction p) where
  own_needs : HasNeeds junction p p.greens
  own_needs g below = omega arith

  -- conflicting groups don't start together
  starts_apart : (i j : ℕ) → i < group_count junction → j < group_count junction → AreConflicting junction.conflicts i j → start_of p i ≢ start_of p j
  starts_apart i j in_i in_j conflicting same =
      let all = shown junction p p.greens begins own_needs in
      let wait = some_value (intergreen_of junction.conflicts i j) conflicting in
      let long = gaps_of_clear junction p all begins.fits.clear i j wait.0 in_i in_j wait.1 in
      let green = shown_green junction p i all in_i in
      let groups = begins.rules.conflicts.same_groups in
      let early = start_in junction p begins.rules all i (omega arith) in
      let one = once p.cycle (start_of p j + p.cycle - start_of p i) (omega arith) in
      let none = no_gap p.cycle (start_of p i) (gap p i j) early (subst (λ x. IsOnce p.cycle (x + p.cycle - start_of p i) (gap p i j)) (sym same) one) in
      absurd (omega arith)

  pair_kept : PairLaw → (pair : ℕ × ℕ) (k : ℕ) (mark : Mark) → slice_get (pairs_of junction.conflicts) k ≡ Some pair → root_mark pair ≡ mark → mark ≢ Open → pair_mark_of p pair ≡ mark
  pair_kept law pair k mark at is decided =
      let first = first_of (has_group_0 pair) mark is decided in
      let of = (law junction.conflicts k pair at).0 in
      let zero_is : pair.0 ≡ 0 = eqb-true pair.0 0 first.0 in
      let groups = begins.rules.conflicts.same_groups in
      let rising = of.rising in
      let within = of.within in
      let apart = starts_apart pair.0 pair.1 (omega arith) (omega arith) of.conflicting in
      let origin : start_of p pair.0 ≡ 0 = ap (start_of p) zero_is ∙ begins.first in
      let less : start_of p pair.0 < start_of p pair.1 = grind arith in
      rw (lt-ltb (start_of p pair.0) (start_of p pair.1) less) first.1

  own_refines : PairLaw → Refines (root_marks junction.conflicts) (own_marks junction p)
  own_refines law = record {
    as_many = own_length junction p ∙ sym (root_length junction.conflicts);
    kept = λ k mark at decided.
        let pairs = pairs_of junction.conflicts in
        let links = junction.conflicts.links in
        let within = slice_get_within (root_marks junction.conflicts) k mark at in
        let size = root_length junction.conflicts in
        elim (item_cases pairs links k (omega arith)) [
          | inl pair ↦
              let is : root_mark pair.0 ≡ mark = same_Some _ _ (sym (mapped_at root_mark pairs (replicate (length links) Open) k pair.0 pair.1) ∙ at) in
              own_pair junction p k pair.0 pair.1 ∙ ap Some (pair_kept law pair.0 k mark pair.1 is decided)
          | inr link ↦
              let there = subst (λ n. slice_get (root_marks junction.conflicts) n ≡ Some mark) link.2 at in
              absurd (decided (root_open (length links) link.0 mark (sym (past_front root_mark pairs (replicate (length links) Open) link.0) ∙ there)))
        ];
  }

  module _ (marks : List Mark) (many : length marks ≡ item_count junction.conflicts) where
    pair_one : PairLaw → GreatestLaw → MeetsOrder junction.conflicts marks p.greens p.cycle p.starts → (i j k : ℕ) (mark : Mark) → slice_get (pairs_of junction.conflicts) k ≡ Some (i, j) →
        slice_get marks k ≡ Some mark → mark ≢ Open → pair_mark_of p (i, j) ≡ mark
    pair_one law greatest meets i j k mark at marked decided =
        let of = (law junction.conflicts k (i, j) at).0 in
        let groups = begins.rules.conflicts.same_groups in
        let few = begins.rules.groups.few in
        let rising : i < j = of.rising in
        let below_j : j < junction.conflicts.groups = of.within in
        let below_i : i < junction.conflicts.groups = omega arith in
        let there = some_value (intergreen_of junction.conflicts i j) of.conflicting in
        let back = some_value (intergreen_of junction.conflicts j i) (begins.rules.conflicts.table.symmetric i j (omega arith) (omega arith) of.conflicting) in
        let all = shown junction p p.greens begins own_needs in
        let green_i = shown_green junction p i all (omega arith) in
        let green_j = shown_green junction p j all (omega arith) in
        let low : lower_first i j ≡ (i, j) = lower_rising i j rising in
        let high : lower_first j i ≡ (i, j) = lower_falling i j rising in
        let asks = λ (u : ℕ) (v : ℕ) (w : ℤ). asks_left greatest junction.conflicts marks p.greens p.cycle p.starts k mark u v w meets marked in
        let forth : (w : ℤ) → pair_weight mark (nat_lt i j) (green_of p i + there.0) p.cycle ≡ Some w → w ≤ℤ (pos (start_of p j) -ℤ pos (start_of p i)) =
        λ w weight. asks i j w below_i below_j (inl (record { intergreen = there.0; pair = at ∙ ap Some (sym low); between = there.1; weight = weight })) in
        let home : (w : ℤ) → pair_weight mark (nat_lt j i) (green_of p j + back.0) p.cycle ≡ Some w → w ≤ℤ (pos (start_of p i) -ℤ pos (start_of p j)) =
        λ w weight. asks j i w below_j below_i (inl (record { intergreen = back.0; pair = at ∙ ap Some (sym high); between = back.1; weight = weight })) in
        fitting (start_of p i) (start_of p j) p.cycle (green_of p i + there.0) (green_of p j + back.0) mark decided (omega arith) (omega arith)
        (λ w weight. forth w (rw (lt-ltb i j rising) weight)) (λ w weight. home w (rw (le-ltb j i (omega arith)) weight))

    link_one : GreatestLaw → MeetsOrder junction.conflicts marks p.greens p.cycle p.starts → (n : ℕ) (mark : Mark) (link : Link) → slice_get junction.conflicts.links n ≡ Some link →
        slice_get marks (length (pairs_of junction.conflicts) + n) ≡ Some mark → mark ≢ Open → link_mark_of p link ≡ mark
    link_one greatest meets n mark link at marked decided =
        let listed = slice_get_within junction.conflicts.links n link at in
        let is = get_or_from_slice_get junction.conflicts.links n link link at in
        let within : IsWithin junction.conflicts.groups link = rw is at (All-get_or (IsWithin junction.conflicts.groups) junction.conflicts.links n link listed begins.rules.conflicts.table.links.linkable.within) in
        let apart : link.leader ≢ link.follower = λ same. begins.rules.conflicts.table.links.apart n listed (rw at same) in
        let all = shown junction p p.greens begins own_needs in
        let some : 1 ≤ p.cycle = all.cycle in
        let less = mod-lt link.after some in
        let asks = λ (u : ℕ) (v : ℕ) (w : ℤ). asks_left greatest junction.conflicts marks p.greens p.cycle p.starts (length (pairs_of junction.conflicts) + n) mark u v w meets marked in
        let forth : (w : ℤ) → linked_weight mark link p.cycle link.leader link.follower ≡ Some w → w ≤ℤ (pos (start_of p link.follower) -ℤ pos (start_of p link.leader)) =
        λ w weight. asks link.leader link.follower w within.leader within.follower (inr (record { number = n; link = link; behind_pairs = refl; there = at; weight = weight })) in
        let home : (w : ℤ) → linked_weight mark link p.cycle link.follower link.leader ≡ Some w → w ≤ℤ (pos (start_of p link.leader) -ℤ pos (start_of p link.follower)) =
        λ w weight. asks link.follower link.leader w within.follower within.leader (inr (record { number = n; link = link; behind_pairs = refl; there = at; weight = weight })) in
        linking (start_of p link.leader) (start_of p link.follower) p.cycle (link.after % p.cycle) mark decided less
        (λ w weight. forth w (rw (eq-eqb link.leader link.leader refl, eq-eqb link.follower link.follower refl) weight))
        (λ w weight. home w (rw (ne_eqb link.follower link.leader (λ e. apart (sym e)), eq-eqb link.follower link.follower refl, eq-eqb link.leader link.leader refl) weight))

    kept_asked : Refines marks (own_marks junction p) → (u v : ℕ) (w : ℤ) → IsAsked junction.conflicts marks p.greens p.cycle u v w → IsAsked junction.conflicts (own_marks junction p) p.greens p.cycle u v w
    kept_asked refines u v w (inl asked) = inl (record {
      item = asked.item;
      mark = asked.mark;
      marked = refines.kept asked.item asked.mark asked.marked (elim asked.asks [
        | inl pair ↦ pair_decides asked.mark (nat_lt u v) _ _ w pair.weight
        | inr link ↦ link_decides asked.mark link.link p.cycle u v w link.weight
      ]);
      asks = asked.asks;
    })
    kept_asked refines u v w (inr origin) = inr origin

    own_kept : AskedLaw → ApartLaw → Refines marks (own_marks junction p) → MeetsOrder junction.conflicts marks p.greens p.cycle p.starts
    own_kept asked apart refines = record {
      served = λ g below. let groups = begins.rules.conflicts.same_groups in let most = green_most junction p g begins.rules begins.fits (omega arith) in most;
      edges = λ u v w edge.
          let found = asked junction.conflicts marks p.greens p.cycle u v w begins.rules.conflicts.table edge in
          let differ : u ≢ v = λ same. let none = apart junction.conflicts marks p.greens p.cycle u begins.rules.conflicts.table in
          let looped : edge_weight junction.conflicts marks p.greens p.cycle u u ≡ Some w = subst (λ x. edge_weight junction.conflicts marks p.greens p.cycle u x ≡ Some w) (sym same) edge in cc in
          asked_met junction p p.greens begins own_needs u v w found.0 found.1 differ (kept_asked refines u v w found.2);
    }

    marks_one : PairLaw → GreatestLaw → MeetsOrder junction.conflicts marks p.greens p.cycle p.starts → Refines marks (own_marks junction p)
    marks_one law greatest meets = record {
      as_many = own_length junction p ∙ sym many;
      kept = λ k mark at decided.
          let within = slice_get_within marks k mark at in
          elim (item_cases (pairs_of junction.conflicts) junction.conflicts.links k (omega arith)) [
            | inl pair ↦ own_pair junction p k pair.0 pair.1 ∙ ap Some (pair_one law greatest meets pair.0.0 pair.0.1 k mark pair.1 at decided)
            | inr link ↦
                let there = subst (λ n. slice_get marks n ≡ Some mark) link.2 at in
                ap (slice_get (own_marks junction p)) link.2 ∙ own_link junction p link.0 link.1 link.3 ∙ ap Some (link_one greatest meets link.0 mark link.1 link.3 there decided)
          ];
    }

pub own_order_law : PairLaw → AskedLaw → ApartLaw → OwnOrderLaw
own_order_law law asked apart junction p needs begins has = record {
  refines = own_refines junction p begins law;
  decided = own_decided junction p;
  met = own_met junction p needs begins has asked apart;
}

pub one_mark_law : PairLaw → AskedLaw → GreatestLaw → ApartLaw → OneMarkLaw
one_mark_law law asked greatest apart junction p marks begins many = (marks_one junction p begins marks many law greatest, own_kept junction p begins marks many asked apart)
