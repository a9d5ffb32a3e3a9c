-- Deciding an open item: what it asks for is added, and all other edges stay.
use Rattle.std.proofs.Common.{ℕ, zero, suc, List, [], ◌∷◌, ◌≡◌, ◌≢◌, ◌+◌, ◌-◌, ◌&&◌, ◌==◌, ◌⊎◌, if◌then◌else◌, inl, inr, refl, sym, ap, ◌∙◌, subst, Bool, true, false, Option, Some, None, IsSomeAnd, length, drop, set, get_or, slice_get, ℤ, arith}
use Rattle.std.specs.Option.{option_map_or}
use Rattle.std.proofs.lemmas.Bool.{cases_eq, cases_lt}
use Rattle.std.proofs.lemmas.Bool.Decides.{nat_tests}
use Rattle.std.proofs.lemmas.List.{drop-set-lt, drop-set-add, get_or-set_other}
use Rattle.std.proofs.lemmas.Option.{same_Some}
use Rattle.conflict_matrix.specs.Matrix.{Matrix}
use Rattle.conflict_matrix.specs.Pairs.{pairs_of, pair_number_of}
use Rattle.conflict_matrix.specs.declared.link.Link.{Link}
use Rattle.conflict_matrix.proofs.PairNumbers.{number_is}
use Rattle.constraint_cycles.specs.Edge.{linked_weight, links_weight, greater}
use Rattle.constraint_cycles.specs.EdgeLaws.{ItemAsks, MarkAsks, IsAsked, IsLinkOf, IsItemOf, DecidedLaw, OtherEdgeLaw}
use Rattle.constraint_cycles.specs.declared.mark.Mark.{Mark}
use Rattle.constraint_cycles.specs.declared.mark.Mark.TheVariants.{Open}
use Rattle.constraint_cycles.proofs.Refinement.{marked_here, marked_elsewhere}

neither : (first second : Bool) (a b : Option ℤ) → (first ≡ true → a ≡ None) → (second ≡ true → b ≡ None) → (if first then a else if second then b else None) ≡ None
neither true second a b p q = p refl
neither false true a b p q = q refl
neither false false a b p q = refl

pub open_asks_nothing : (m : Matrix) (item : ℕ) (needs : List ℕ) (cycle u v : ℕ) (w : ℤ) → ¬ ItemAsks m item Open needs cycle u v w
open_asks_nothing m item needs cycle u v w (inl p) = let weight = p.weight in cc
open_asks_nothing m item needs cycle u v w (inr l) =
    let weight = l.weight in
    let none = neither (u == l.link.leader && v == l.link.follower) (u == l.link.follower && v == l.link.leader) None None (λ _. refl) (λ _. refl) in
    cc

module _ (m : Matrix) (marks : List Mark) (needs : List ℕ) (cycle item : ℕ) (mark : Mark) (u v : ℕ) (w : ℤ) (was_open : slice_get marks item ≡ Some Open) where
  asked_after : MarkAsks m (set marks item mark) needs cycle u v w → IsAsked m marks needs cycle u v w ⊎ ItemAsks m item mark needs cycle u v w
  asked_after a = elim (cases_eq a.item item) [
    | inl same ↦
        let is : a.mark ≡ mark = same_Some a.mark mark (sym a.marked ∙ ap (slice_get (set marks item mark)) same ∙ marked_here marks item Open mark was_open) in
        inr (subst (λ k. ItemAsks m k mark needs cycle u v w) same (subst (λ x. ItemAsks m a.item x needs cycle u v w) is a.asks))
    | inr other ↦ inl (inl (record { item = a.item; mark = a.mark; marked = sym (marked_elsewhere marks item a.item mark other) ∙ a.marked; asks = a.asks }))
  ]

  asked_before : MarkAsks m marks needs cycle u v w → MarkAsks m (set marks item mark) needs cycle u v w
  asked_before a = elim (cases_eq a.item item) [
    | inl same ↦
        let is : a.mark ≡ Open = same_Some a.mark Open (sym a.marked ∙ ap (slice_get marks) same ∙ was_open) in
        absurd (open_asks_nothing m a.item needs cycle u v w (subst (λ x. ItemAsks m a.item x needs cycle u v w) is a.asks))
    | inr other ↦ record { item = a.item; mark = a.mark; marked = marked_elsewhere marks item a.item mark other ∙ a.marked; asks = a.asks }
  ]

  after : IsAsked m (set marks item mark) needs cycle u v w → IsAsked m marks needs cycle u v w ⊎ ItemAsks m item mark needs cycle u v w
  after (inl a) = asked_after a
  after (inr origin) = inl (inr origin)

  before : IsAsked m marks needs cycle u v w ⊎ ItemAsks m item mark needs cycle u v w → IsAsked m (set marks item mark) needs cycle u v w
  before (inl (inl a)) = inl (asked_before a)
  before (inl (inr origin)) = inr origin
  before (inr asks) = inl (record { item = item; mark = mark; marked = marked_here marks item Open mark was_open; asks = asks })

pub decided_law : DecidedLaw
decided_law m marks needs cycle item mark u v w was_open =
    (after m marks needs cycle item mark u v w was_open, before m marks needs cycle item mark u v w was_open)

pub both_same : (u a v b : ℕ) → (u == a && v == b) ≡ true → (u ≡ a) × (v ≡ b)
both_same u a v b h = grind (arith, nat_tests)

not_linked : (mark : Mark) (link : Link) (cycle u v : ℕ) → ¬ IsLinkOf link u v → linked_weight mark link cycle u v ≡ None
not_linked mark link cycle u v other =
    neither (u == link.leader && v == link.follower) (u == link.follower && v == link.leader) _ _
    (λ leads. absurd (other (inl (both_same u link.leader v link.follower leads))))
    (λ follows. absurd (other (inr (both_same u link.follower v link.leader follows))))

links_kept : (marks : List Mark) (links : List Link) (cycle u v k : ℕ) (mark : Mark) → ¬ IsSomeAnd (slice_get links k) (λ link. IsLinkOf link u v) →
    links_weight (set marks k mark) links cycle u v ≡ links_weight marks links cycle u v
links_kept marks [] cycle u v k mark other = refl
links_kept [] (link ∷ links) cycle u v k mark other = refl
links_kept (here ∷ marks) (link ∷ links) cycle u v zero mark other = rw (not_linked mark link cycle u v other, not_linked here link cycle u v other) refl
links_kept (here ∷ marks) (link ∷ links) cycle u v (suc k) mark other =
    ap (greater (linked_weight here link cycle u v)) (links_kept marks links cycle u v k mark other)

mark_kept : (marks : List Mark) (item : ℕ) (mark : Mark) (number : Option ℕ) → ((k : ℕ) → number ≡ Some k → k ≢ item) →
    option_map_or (λ k. get_or (set marks item mark) k Open) number Open ≡ option_map_or (λ k. get_or marks k Open) number Open
mark_kept marks item mark None other = refl
mark_kept marks item mark (Some k) other = get_or-set_other marks item k mark Open (other k refl)

module _ (m : Matrix) (marks : List Mark) (cycle item : ℕ) (mark : Mark) (u v : ℕ) (other : ¬ IsItemOf m item u v) where
  other_pair : (k : ℕ) → pair_number_of m u v ≡ Some k → k ≢ item
  other_pair k is same = other (inl (ap (slice_get (pairs_of m)) (sym same) ∙ number_is m u v k is))

  other_links : links_weight (drop (length (pairs_of m)) (set marks item mark)) m.links cycle u v ≡ links_weight (drop (length (pairs_of m)) marks) m.links cycle u v
  other_links =
      let n = length (pairs_of m) in
      elim (cases_lt item n) [
        | inl before ↦ ap (λ rest. links_weight rest m.links cycle u v) (drop-set-lt n marks item mark before)
        | inr behind ↦
            let at : n + (item - n) ≡ item = omega arith in
            ap (λ k. links_weight (drop n (set marks k mark)) m.links cycle u v) (sym at)
            ∙ ap (λ rest. links_weight rest m.links cycle u v) (drop-set-add n marks (item - n) mark)
            ∙ links_kept (drop n marks) m.links cycle u v (item - n) mark (λ is. other (inr (behind, is)))
      ]

pub other_edge_law : OtherEdgeLaw
other_edge_law m marks needs cycle item mark u v was_open other =
    rw (mark_kept marks item mark (pair_number_of m u v) (other_pair m marks cycle item mark u v other), other_links m marks cycle item mark u v other) refl
