-- The starts of a plan meet the edges of the order that they give.
use Rattle.std.proofs.Common.{ℕ, zero, suc, List, [], ◌∷◌, ◌++◌, ◌≡◌, ◌≢◌, ◌<◌, ◌≤◌, ◌+◌, ◌-◌, ◌%◌, ◌==◌, ◌&&◌, ◌⊎◌, inl, inr, refl, sym, ap, ◌∙◌, subst, min, max, map, length, Bool, true, false, nat_lt, nat_le, if◌then◌else◌, Option, Some, None, slice_get, slice_index, arith, ℤ, pos, neg_ℤ, ◌-ℤ◌, ◌≤ℤ◌}
use Rattle.std.proofs.lemmas.Int.{ints}
use Rattle.std.proofs.lemmas.Bool.{cases_lt, lt-ltb, le-ltb, le-leb, lt-leb, eqb-true}
use Rattle.std.proofs.Math.Nat.{mod-lt, add-mod-mod}
use Rattle.std.proofs.lemmas.List.Elements.{All-get_or}
use Rattle.std.proofs.lemmas.Option.{slice_get_within, get_or_from_slice_get}
use Rattle.conflict_matrix.specs.Links.{IsWithin}
use Rattle.conflict_matrix.specs.Pairs.{pairs_of, lower_first}
use Rattle.conflict_matrix.specs.declared.link.Link.{Link}
use Rattle.constraint_cycles.specs.Edge.{pair_weight, origin_weight, link_weight, edge_weight}
use Rattle.constraint_cycles.specs.EdgeLaws.{PairAsks, LinkAsks, IsAsked, AskedLaw, ApartLaw}
use Rattle.constraint_cycles.specs.Starts.{MeetsOrder}
use Rattle.constraint_cycles.specs.declared.mark.Mark.{Mark}
use Rattle.constraint_cycles.specs.declared.mark.Mark.TheVariants.{First, Second}
use Rattle.constraint_cycles.proofs.Decisions.{both_same}
use Rattle.junction_model.specs.Junction.{JunctionView}
use Rattle.plan_model.specs.SignalPlan.{PlanView, start_of}
use Rattle.plan_model.specs.Fits.{KeepsLink, group_count}
use Rattle.plan_model.specs.Gap.{gap, IsShown}
use Rattle.plan_model.specs.OwnOrder.{pair_mark_of, link_mark_of, own_marks, BeginsWithGroup0, HasNeeds}
use Rattle.plan_model.proofs.Phase.{IsOnce, once}
use Rattle.plan_model.proofs.IsShown.{fits_shown, start_in, shown_green}
use Rattle.plan_model.proofs.Gaps.{gaps_of_clear}
use Rattle.plan_model.proofs.GreenBelowCycle.{green_most}

pub mapped_at : {X : Type 0} (f : X → Mark) (xs : List X) (rest : List Mark) (k : ℕ) (x : X) → slice_get xs k ≡ Some x → slice_get (map f xs ++ rest) k ≡ Some (f x)
mapped_at f [] rest k x at = cc
mapped_at f (y ∷ xs) rest zero x at = let same : y ≡ x = cc in ap (λ z. Some (f z)) same
mapped_at f (y ∷ xs) rest (suc k) x at = mapped_at f xs rest k x at

pub mapped_alone : {X : Type 0} (f : X → Mark) (xs : List X) (k : ℕ) (x : X) → slice_get xs k ≡ Some x → slice_get (map f xs) k ≡ Some (f x)
mapped_alone f [] k x at = cc
mapped_alone f (y ∷ xs) zero x at = let same : y ≡ x = cc in ap (λ z. Some (f z)) same
mapped_alone f (y ∷ xs) (suc k) x at = mapped_alone f xs k x at

pub past_front : {X : Type 0} (f : X → Mark) (xs : List X) (rest : List Mark) (k : ℕ) → slice_get (map f xs ++ rest) (length xs + k) ≡ slice_get rest k
past_front f [] rest k = let same : 0 + k ≡ k = omega arith in ap (slice_get rest) same
past_front f (y ∷ xs) rest k =
    let later : suc (length xs) + k ≡ suc (length xs + k) = omega arith in
    ap (slice_get (map f (y ∷ xs) ++ rest)) later ∙ past_front f xs rest k

pub own_pair : (junction : JunctionView) (p : PlanView) (k : ℕ) (pair : ℕ × ℕ) → slice_get (pairs_of junction.conflicts) k ≡ Some pair →
    slice_get (own_marks junction p) k ≡ Some (pair_mark_of p pair)
own_pair junction p k pair at = mapped_at (pair_mark_of p) (pairs_of junction.conflicts) (map (link_mark_of p) junction.conflicts.links) k pair at

pub own_link : (junction : JunctionView) (p : PlanView) (k : ℕ) (link : Link) → slice_get junction.conflicts.links k ≡ Some link →
    slice_get (own_marks junction p) (length (pairs_of junction.conflicts) + k) ≡ Some (link_mark_of p link)
own_link junction p k link at =
    past_front (pair_mark_of p) (pairs_of junction.conflicts) (map (link_mark_of p) junction.conflicts.links) k ∙ mapped_alone (link_mark_of p) junction.conflicts.links k link at

-- the seconds from one start to the next one of another group, as a difference of the two starts
pub later_gap : (c s r gap : ℕ) → s < c → r < c → s < r → IsOnce c (r + c - s) gap → gap + s ≡ r
later_gap c s r gap p q less h = grind arith

pub earlier_gap : (c s r gap : ℕ) → s < c → r < c → r < s → IsOnce c (r + c - s) gap → gap + s ≡ r + c
earlier_gap c s r gap p q less h = grind arith

pub no_gap : (c s gap : ℕ) → s < c → IsOnce c (s + c - s) gap → gap ≡ 0
no_gap c s gap p h = grind arith

-- what u asks of v, the green and the intergreen `wait` fitting into the gap between their starts
lower_met : (c s r gap wait : ℕ) (w : ℤ) → s < c → r < c → 1 ≤ gap → IsOnce c (r + c - s) gap → wait ≤ gap →
    pair_weight (if nat_lt s r then First else Second) true wait c ≡ Some w → w ≤ℤ (pos r -ℤ pos s)
lower_met c s r gap wait w p q some apart fits h = elim (cases_lt s r) [
  | inl less ↦
      let is : pos wait ≡ w = cc (rw (lt-ltb s r less) at h) in
      let same = later_gap c s r gap p q less apart in
      omega (arith, ints)
  | inr not_less ↦
      let is : pos wait -ℤ pos c ≡ w = cc (rw (le-ltb s r not_less) at h) in
      elim (cases_lt r s) [
        | inl more ↦ let same = earlier_gap c s r gap p q more apart in omega (arith, ints)
        | inr not_more ↦ let one : r ≡ s = omega arith in let none = no_gap c s gap p (subst (λ x. IsOnce c (x + c - s) gap) one apart) in absurd (omega arith)
      ]
]

higher_met : (c s r gap wait : ℕ) (w : ℤ) → s < c → r < c → 1 ≤ gap → IsOnce c (r + c - s) gap → wait ≤ gap →
    pair_weight (if nat_lt r s then First else Second) false wait c ≡ Some w → w ≤ℤ (pos r -ℤ pos s)
higher_met c s r gap wait w p q some apart fits h = elim (cases_lt r s) [
  | inl less ↦
      let is : pos wait -ℤ pos c ≡ w = cc (rw (lt-ltb r s less) at h) in
      let same = earlier_gap c s r gap p q less apart in
      omega (arith, ints)
  | inr not_less ↦
      let is : pos wait ≡ w = cc (rw (le-ltb r s not_less) at h) in
      elim (cases_lt s r) [
        | inl more ↦ let same = later_gap c s r gap p q more apart in omega (arith, ints)
        | inr not_more ↦ let one : r ≡ s = omega arith in let none = no_gap c s gap p (subst (λ x. IsOnce c (x + c - s) gap) one apart) in absurd (omega arith)
      ]
]

either_met : (p : PlanView) (u v wait gap : ℕ) (w : ℤ) → u ≢ v → start_of p u < p.cycle → start_of p v < p.cycle → 1 ≤ gap →
    IsOnce p.cycle (start_of p v + p.cycle - start_of p u) gap → wait ≤ gap →
    pair_weight (pair_mark_of p (lower_first u v)) (nat_lt u v) wait p.cycle ≡ Some w → w ≤ℤ (pos (start_of p v) -ℤ pos (start_of p u))
either_met p u v wait gap w apart su sv some one fits h = elim (cases_lt u v) [
  | inl less ↦
      let low : min u v ≡ u = omega arith in
      let high : max u v ≡ v = omega arith in
      lower_met p.cycle (start_of p u) (start_of p v) gap wait w su sv some one fits (rw (low, high, lt-ltb u v less) at h)
  | inr more ↦
      let low : min u v ≡ v = omega arith in
      let high : max u v ≡ u = omega arith in
      higher_met p.cycle (start_of p u) (start_of p v) gap wait w su sv some one fits (rw (low, high, le-ltb u v more) at h)
]

-- the follower's start by the leader's
link_once : (c leader after follower : ℕ) → 1 ≤ c → leader < c → follower ≡ (leader + after) % c → IsOnce c (leader + after % c) follower
link_once c leader after follower some early kept =
    let less = mod-lt after some in
    let same : follower ≡ (leader + after % c) % c = kept ∙ sym (add-mod-mod leader after c) in
    rw same (once c (leader + after % c) (omega arith))

link_behind : (c wait leader follower : ℕ) → wait < c → leader ≤ follower → IsOnce c (leader + wait) follower → follower ≡ leader + wait
link_behind c wait leader follower less behind one = grind arith

link_passed : (c wait leader follower : ℕ) → wait < c → follower < leader → IsOnce c (leader + wait) follower → follower + c ≡ leader + wait
link_passed c wait leader follower less passed one = grind arith

leads_met : (c wait leader follower : ℕ) (w : ℤ) → wait < c → IsOnce c (leader + wait) follower →
    link_weight (if nat_le leader follower then First else Second) true wait c ≡ Some w → w ≤ℤ (pos follower -ℤ pos leader)
leads_met c wait leader follower w less one h = elim (cases_lt follower leader) [
  | inl passed ↦
      let is : pos wait -ℤ pos c ≡ w = cc (rw (lt-leb leader follower passed) at h) in
      let same = link_passed c wait leader follower less passed one in
      omega (arith, ints)
  | inr behind ↦
      let is : pos wait ≡ w = cc (rw (le-leb leader follower behind) at h) in
      let same = link_behind c wait leader follower less behind one in
      omega (arith, ints)
]

follows_met : (c wait leader follower : ℕ) (w : ℤ) → wait < c → IsOnce c (leader + wait) follower →
    link_weight (if nat_le leader follower then First else Second) false wait c ≡ Some w → w ≤ℤ (pos leader -ℤ pos follower)
follows_met c wait leader follower w less one h = elim (cases_lt follower leader) [
  | inl passed ↦
      let is : pos c -ℤ pos wait ≡ w = cc (rw (lt-leb leader follower passed) at h) in
      let same = link_passed c wait leader follower less passed one in
      omega (arith, ints)
  | inr behind ↦
      let is : neg_ℤ (pos wait) ≡ w = cc (rw (le-leb leader follower behind) at h) in
      let same = link_behind c wait leader follower less behind one in
      omega (arith, ints)
]

linked_ends : (first second : Bool) (a b : Option ℤ) (w : ℤ) → (if first then a else if second then b else None) ≡ Some w →
    ((first ≡ true) × (a ≡ Some w)) ⊎ ((second ≡ true) × (b ≡ Some w))
linked_ends true second a b w h = inl (refl, h)
linked_ends false true a b w h = inr (refl, h)
linked_ends false false a b w h = cc

-- what the cycle asks
free_cases : (same f g : Bool) (c : ℕ) (w : ℤ) → (if same then None else if f then Some (pos 0) else if g then Some (pos 1 -ℤ pos c) else None) ≡ Some w →
    ((f ≡ true) × (pos 0 ≡ w)) ⊎ ((g ≡ true) × (pos 1 -ℤ pos c ≡ w))
free_cases true f g c w h = cc
free_cases false true g c w h = inl (refl, cc)
free_cases false false true c w h = inr (refl, cc)
free_cases false false false c w h = cc

free_met : (c s r u v : ℕ) (w : ℤ) → s < c → r < c → ((u ≡ 0) → s ≡ 0) → ((v ≡ 0) → r ≡ 0) → origin_weight c u v ≡ Some w → w ≤ℤ (pos r -ℤ pos s)
free_met c s r u v w p q first second h = elim (free_cases (u == v) (u == 0) (v == 0) c w h) [
  | inl out ↦ let is : pos 0 ≡ w = out.1 in let none = first (eqb-true u 0 out.0) in omega (arith, ints)
  | inr back ↦ let is : pos 1 -ℤ pos c ≡ w = back.1 in let none = second (eqb-true v 0 back.0) in omega (arith, ints)
]

module _ (junction : JunctionView) (p : PlanView) (needs : List ℕ) (begins : BeginsWithGroup0 junction p) (has : HasNeeds junction p needs) where
  pub shown : IsShown junction p
  shown = fits_shown junction p begins.rules begins.fits

  pair_met : (item : ℕ) (mark : Mark) (u v : ℕ) (w : ℤ) → slice_get (own_marks junction p) item ≡ Some mark → u < junction.conflicts.groups → v < junction.conflicts.groups → u ≢ v →
      PairAsks junction.conflicts item mark needs p.cycle u v w → w ≤ℤ (pos (start_of p v) -ℤ pos (start_of p u))
  pair_met item mark u v w marked below_u below_v apart asked =
      let same = begins.rules.conflicts.same_groups in
      let in_u : u < group_count junction = omega arith in
      let in_v : v < group_count junction = omega arith in
      let s = start_in junction p begins.rules shown u below_u in
      let r = start_in junction p begins.rules shown v below_v in
      let long = gaps_of_clear junction p shown begins.fits.clear u v asked.intergreen in_u in_v asked.between in
      let green = shown_green junction p u shown in_u in
      let need = has u in_u in
      let own : mark ≡ pair_mark_of p (lower_first u v) = cc (marked, own_pair junction p item (lower_first u v) asked.pair) in
      either_met p u v (slice_index needs u + asked.intergreen) (gap p u v) w apart s r (omega arith)
      (once p.cycle (start_of p v + p.cycle - start_of p u) (omega arith)) (omega arith) (rw own at asked.weight)

  link_met : (item : ℕ) (mark : Mark) (u v : ℕ) (w : ℤ) → slice_get (own_marks junction p) item ≡ Some mark → LinkAsks junction.conflicts item mark p.cycle u v w →
      w ≤ℤ (pos (start_of p v) -ℤ pos (start_of p u))
  link_met item mark u v w marked asked =
      let link = asked.link in
      let listed = slice_get_within junction.conflicts.links asked.number link asked.there in
      let is = get_or_from_slice_get junction.conflicts.links asked.number link link asked.there in
      let within : IsWithin junction.conflicts.groups link = rw is at (All-get_or (IsWithin junction.conflicts.groups) junction.conflicts.links asked.number link listed begins.rules.conflicts.table.links.linkable.within) in
      let kept : KeepsLink p link = rw is at (All-get_or (KeepsLink p) junction.conflicts.links asked.number link listed begins.fits.links) in
      let early = start_in junction p begins.rules shown link.leader within.leader in
      let some : 1 ≤ p.cycle = shown.cycle in
      let one = link_once p.cycle (start_of p link.leader) link.after (start_of p link.follower) some early kept in
      let less = mod-lt link.after some in
      let own : mark ≡ link_mark_of p link = cc (marked, own_link junction p asked.number link asked.there, asked.behind_pairs) in
      elim (linked_ends (u == link.leader && v == link.follower) (u == link.follower && v == link.leader) _ _ w asked.weight) [
        | inl leads ↦
            let ends = both_same u link.leader v link.follower leads.0 in
            rw (ends.0, ends.1) (leads_met p.cycle (link.after % p.cycle) (start_of p link.leader) (start_of p link.follower) w less one (rw own at leads.1))
        | inr follows ↦
            let ends = both_same u link.follower v link.leader follows.0 in
            rw (ends.0, ends.1) (follows_met p.cycle (link.after % p.cycle) (start_of p link.leader) (start_of p link.follower) w less one (rw own at follows.1))
      ]

  pub asked_met : (u v : ℕ) (w : ℤ) → u < junction.conflicts.groups → v < junction.conflicts.groups → u ≢ v → IsAsked junction.conflicts (own_marks junction p) needs p.cycle u v w →
      w ≤ℤ (pos (start_of p v) -ℤ pos (start_of p u))
  asked_met u v w below_u below_v apart (inl asked) = elim asked.asks [
    | inl pair ↦ pair_met asked.item asked.mark u v w asked.marked below_u below_v apart pair
    | inr link ↦ link_met asked.item asked.mark u v w asked.marked link
  ]
  asked_met u v w below_u below_v apart (inr origin) =
      free_met p.cycle (start_of p u) (start_of p v) u v w (start_in junction p begins.rules shown u below_u) (start_in junction p begins.rules shown v below_v)
      (λ e. ap (start_of p) e ∙ begins.first) (λ e. ap (start_of p) e ∙ begins.first) origin.weight

  pub own_met : AskedLaw → ApartLaw → MeetsOrder junction.conflicts (own_marks junction p) needs p.cycle p.starts
  own_met asked apart = record {
    served = λ g below.
        let same = begins.rules.conflicts.same_groups in
        let need = has g (omega arith) in
        let most = green_most junction p g begins.rules begins.fits (omega arith) in
        omega arith;
    edges = λ u v w edge.
        let found = asked junction.conflicts (own_marks junction p) needs p.cycle u v w begins.rules.conflicts.table edge in
        let differ : u ≢ v = λ same. let none = apart junction.conflicts (own_marks junction p) needs p.cycle u begins.rules.conflicts.table in
        let looped : edge_weight junction.conflicts (own_marks junction p) needs p.cycle u u ≡ Some w = subst (λ x. edge_weight junction.conflicts (own_marks junction p) needs p.cycle u x ≡ Some w) (sym same) edge in cc in
        asked_met u v w found.0 found.1 differ found.2;
  }
