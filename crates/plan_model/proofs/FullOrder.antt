-- Starts that meet a full order leave the gaps and keep the links.
use Rattle.std.proofs.Common.{ℕ, List, ◌≡◌, ◌≢◌, ◌<◌, ◌≤◌, ◌+◌, ◌-◌, ◌%◌, ◌⊎◌, inl, inr, refl, sym, ap, ◌∙◌, min, max, length, get_or, Bool, true, false, nat_lt, All, Option, None, Some, MatchOption, slice_get, arith, ℤ, pos, neg_ℤ, ◌-ℤ◌, ◌≤ℤ◌}
use Rattle.std.proofs.lemmas.Int.{ints}
use Rattle.std.proofs.lemmas.Bool.{cases_order, lt-ltb, le-ltb, eq-eqb, ne_eqb}
use Rattle.std.proofs.lemmas.List.Elements.{All-get_or}
use Rattle.std.proofs.lemmas.Option.{slice_get_within, slice_get-get_or}
use Rattle.std.proofs.Math.Nat.{mod-eq_of_lt, add-mod-mod, add-mod_right}
use Rattle.conflict_matrix.specs.Matrix.{AreConflicting, intergreen_of}
use Rattle.conflict_matrix.specs.Links.{IsWithin}
use Rattle.conflict_matrix.specs.Pairs.{pairs_of, pair_number_of, lower_first}
use Rattle.conflict_matrix.specs.PairLaws.{PairNumberLaw}
use Rattle.constraint_cycles.specs.Marks.{item_count, IsDecided}
use Rattle.constraint_cycles.specs.Edge.{pair_weight, link_weight}
use Rattle.constraint_cycles.specs.EdgeLaws.{ItemAsks, GreatestLaw}
use Rattle.constraint_cycles.specs.Starts.{MeetsOrder}
use Rattle.constraint_cycles.specs.declared.mark.Mark.{Mark}
use Rattle.constraint_cycles.specs.declared.mark.Mark.TheVariants.{Open, First, Second}
use Rattle.junction_model.specs.Junction.{JunctionView}
use Rattle.junction_model.specs.Rules.{IsJunction}
use Rattle.plan_model.specs.SignalPlan.{PlanView, start_of, green_of}
use Rattle.plan_model.specs.Fits.{Fits, KeepsLink}
use Rattle.plan_model.specs.Gap.{gap, HasGaps, IsShown}
use Rattle.plan_model.specs.FullOrder.{IsShaped, FullOrderFitsLaw}
use Rattle.plan_model.proofs.Phase.{IsOnce, once}
use Rattle.sig_base.proofs.Option.{some_value}
use Rattle.plan_model.proofs.IsShown.{each_shown, start_in, shown_green}
use Rattle.plan_model.proofs.Gaps.{spaced_fits}
use Rattle.plan_model.proofs.OwnOrder.{later_gap, earlier_gap}
use Rattle.plan_model.proofs.OneMark.{asks_left}

-- the gap from a group to one that starts later, or earlier, by what a decided mark asks both ways
first_gap : (c s r gap forth back : ℕ) → s < c → r < c → 1 ≤ forth → IsOnce c (r + c - s) gap → pos forth ≤ℤ (pos r -ℤ pos s) → forth ≤ gap
first_gap c s r gap forth back p q some one asked =
    let less : s < r = omega (arith, ints) in
    let same = later_gap c s r gap p q less one in
    omega (arith, ints)

second_gap : (c s r gap forth back : ℕ) → s < c → r < c → 1 ≤ back → IsOnce c (r + c - s) gap →
    (pos forth -ℤ pos c) ≤ℤ (pos r -ℤ pos s) → pos back ≤ℤ (pos s -ℤ pos r) → forth ≤ gap
second_gap c s r gap forth back p q some one asked home =
    let less : r < s = omega (arith, ints) in
    let same = earlier_gap c s r gap p q less one in
    omega (arith, ints)

-- both ways of a pair with a decided mark, u being the lower group or not
either_gap : (c s r gap forth back : ℕ) (mark : Mark) (lower higher : Bool) → mark ≢ Open → ((lower ≡ true) × (higher ≡ false)) ⊎ ((lower ≡ false) × (higher ≡ true)) →
    s < c → r < c → 1 ≤ forth → 1 ≤ back → IsOnce c (r + c - s) gap →
    ((w : ℤ) → pair_weight mark lower forth c ≡ Some w → w ≤ℤ (pos r -ℤ pos s)) → ((w : ℤ) → pair_weight mark higher back c ≡ Some w → w ≤ℤ (pos s -ℤ pos r)) →
    forth ≤ gap
either_gap c s r gap forth back Open lower higher decided ways p q some more one there home = absurd (decided refl)
either_gap c s r gap forth back First lower higher decided (inl ways) p q some more one there home = first_gap c s r gap forth back p q some one (there (pos forth) (rw ways.0 refl))
either_gap c s r gap forth back First lower higher decided (inr ways) p q some more one there home =
    second_gap c s r gap forth back p q more one (there (pos forth -ℤ pos c) (rw ways.0 refl)) (home (pos back) (rw ways.1 refl))
either_gap c s r gap forth back Second lower higher decided (inl ways) p q some more one there home =
    second_gap c s r gap forth back p q more one (there (pos forth -ℤ pos c) (rw ways.0 refl)) (home (pos back) (rw ways.1 refl))
either_gap c s r gap forth back Second lower higher decided (inr ways) p q some more one there home = first_gap c s r gap forth back p q some one (there (pos forth) (rw ways.0 refl))

-- a link with a decided mark
link_due : (c s r after : ℕ) (mark : Mark) → mark ≢ Open → s < c → r < c →
    ((w : ℤ) → link_weight mark true (after % c) c ≡ Some w → w ≤ℤ (pos r -ℤ pos s)) → ((w : ℤ) → link_weight mark false (after % c) c ≡ Some w → w ≤ℤ (pos s -ℤ pos r)) →
    r ≡ (s + after) % c
link_due c s r after Open decided p q there home = absurd (decided refl)
link_due c s r after First decided p q there home =
    let least = there (pos (after % c)) refl in
    let most = home (neg_ℤ (pos (after % c))) refl in
    let is : r ≡ s + after % c = omega (arith, ints) in
    sym (mod-eq_of_lt q) ∙ ap (λ n. n % c) is ∙ add-mod-mod s after c
link_due c s r after Second decided p q there home =
    let least = there (pos (after % c) -ℤ pos c) refl in
    let most = home (pos c -ℤ pos (after % c)) refl in
    let is : r + c ≡ s + after % c = omega (arith, ints) in
    sym (mod-eq_of_lt q) ∙ sym (add-mod_right r c) ∙ ap (λ n. n % c) is ∙ add-mod-mod s after c

has_number : {C : Type 0} {P : ℕ → Type 0} (o : Option ℕ) → MatchOption o (C → ⊥) P → C → (k : ℕ) × P k
has_number None h c = absurd (h c)
has_number (Some k) h c = (k, h)

swapped : (i j : ℕ) → lower_first j i ≡ lower_first i j
swapped i j =
    let low : min j i ≡ min i j = omega arith in
    let high : max j i ≡ max i j = omega arith in
    rw (low, high) refl

module _ (junction : JunctionView) (p : PlanView) (marks : List Mark) (rules : IsJunction junction) (shaped : IsShaped junction p)
    (many : length marks ≡ item_count junction.conflicts) (decided : IsDecided marks) (meets : MeetsOrder junction.conflicts marks p.greens p.cycle p.starts)
    (greatest : GreatestLaw) (number : PairNumberLaw) where
  shown : IsShown junction p
  shown = each_shown junction p rules shaped.groups shaped.cycle shaped.starts (λ i group there. (shaped.greens i group there).0)

  asks : (item : ℕ) (mark : Mark) (u v : ℕ) (w : ℤ) → slice_get marks item ≡ Some mark → u < junction.conflicts.groups → v < junction.conflicts.groups →
      ItemAsks junction.conflicts item mark p.greens p.cycle u v w → w ≤ℤ (pos (start_of p v) -ℤ pos (start_of p u))
  asks item mark u v w = asks_left greatest junction.conflicts marks p.greens p.cycle p.starts item mark u v w meets

  -- each item below the number of marks has a decided one
  marked : (k : ℕ) → k < length marks → (mark : Mark) × (slice_get marks k ≡ Some mark) × (mark ≢ Open)
  marked k below = (get_or marks k Open, slice_get-get_or marks k Open below, decided k Open below)

  numbered : (i j : ℕ) → i < junction.conflicts.groups → j < junction.conflicts.groups → AreConflicting junction.conflicts i j →
      (k : ℕ) × (slice_get (pairs_of junction.conflicts) k ≡ Some (lower_first i j))
  numbered i j below_i below_j conflicting = has_number (pair_number_of junction.conflicts i j) (number junction.conflicts i j rules.conflicts.table below_i below_j) conflicting

  gaps_left : HasGaps junction p
  gaps_left i j w in_i in_j between =
      let same = rules.conflicts.same_groups in
      let few = rules.groups.few in
      let below_i : i < junction.conflicts.groups = omega arith in
      let below_j : j < junction.conflicts.groups = omega arith in
      let conflicting : AreConflicting junction.conflicts i j = rw between refl in
      let back = some_value (intergreen_of junction.conflicts j i) (rules.conflicts.table.symmetric i j (omega arith) (omega arith) conflicting) in
      let pair = numbered i j below_i below_j conflicting in
      let within = slice_get_within (pairs_of junction.conflicts) pair.0 (lower_first i j) pair.1 in
      let mark = marked pair.0 (omega arith) in
      let green_i = shown_green junction p i shown in_i in
      let green_j = shown_green junction p j shown in_j in
      let s = start_in junction p rules shown i below_i in
      let r = start_in junction p rules shown j below_j in
      let again : lower_first j i ≡ lower_first i j = swapped i j in
      let ways : ((nat_lt i j ≡ true) × (nat_lt j i ≡ false)) ⊎ ((nat_lt i j ≡ false) × (nat_lt j i ≡ true)) = elim (cases_order i j) [
        | inl one ↦ absurd (rules.conflicts.table.apart i (omega arith) (rw (← one) at conflicting))
        | inr (inl less) ↦ inl (lt-ltb i j less, le-ltb j i (omega arith))
        | inr (inr more) ↦ inr (le-ltb i j (omega arith), lt-ltb j i more)
      ] in
      either_gap p.cycle (start_of p i) (start_of p j) (gap p i j) (green_of p i + w) (green_of p j + back.0) mark.0 (nat_lt i j) (nat_lt j i) mark.2 ways s r (omega arith) (omega arith)
      (once p.cycle (start_of p j + p.cycle - start_of p i) (omega arith))
      (λ x weight. asks pair.0 mark.0 i j x mark.1 below_i below_j (inl (record { intergreen = w; pair = pair.1; between = between; weight = weight })))
      (λ x weight. asks pair.0 mark.0 j i x mark.1 below_j below_i
      (inl (record { intergreen = back.0; pair = pair.1 ∙ ap Some (sym again); between = back.1; weight = weight })))

  links_left : All (KeepsLink p) junction.conflicts.links
  links_left n d below =
      let link = get_or junction.conflicts.links n d in
      let at = slice_get-get_or junction.conflicts.links n d below in
      let within = All-get_or (IsWithin junction.conflicts.groups) junction.conflicts.links n d below rules.conflicts.table.links.linkable.within in
      let apart : link.leader ≢ link.follower = λ same. rules.conflicts.table.links.apart n below (rw at same) in
      let item : ℕ = length (pairs_of junction.conflicts) + n in
      let mark = marked item (omega arith) in
      link_due p.cycle (start_of p link.leader) (start_of p link.follower) link.after mark.0 mark.2 (start_in junction p rules shown link.leader within.leader)
      (start_in junction p rules shown link.follower within.follower)
      (λ x weight. asks item mark.0 link.leader link.follower x mark.1 within.leader within.follower (inr (record {
        number = n;
        link = link;
        behind_pairs = refl;
        there = at;
        weight = rw (eq-eqb link.leader link.leader refl, eq-eqb link.follower link.follower refl) weight;
      })))
      (λ x weight. asks item mark.0 link.follower link.leader x mark.1 within.follower within.leader (inr (record {
        number = n;
        link = link;
        behind_pairs = refl;
        there = at;
        weight = rw (ne_eqb link.follower link.leader (λ e. apart (sym e)), eq-eqb link.follower link.follower refl, eq-eqb link.leader link.leader refl) weight;
      })))

  fits : Fits junction p
  fits = spaced_fits junction p rules (record {
    groups = shaped.groups;
    cycle = shaped.cycle;
    starts = shaped.starts;
    greens = λ i group there. (shaped.greens i group there).0;
    longest = λ i group there. (shaped.greens i group there).1;
    gaps = gaps_left;
    links = links_left;
  })

pub full_order_fits_law : GreatestLaw → PairNumberLaw → FullOrderFitsLaw
full_order_fits_law greatest number junction p marks rules shaped many decided meets = fits junction p marks rules shaped many decided meets greatest number
