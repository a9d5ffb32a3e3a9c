-- The edges of an order, by what asks for them.
use Rattle.std.proofs.Common.{ℕ, zero, suc, List, [], ◌∷◌, ◌≡◌, ◌<◌, ◌+◌, ◌&&◌, ◌==◌, if◌then◌else◌, ◌⊎◌, inl, inr, refl, sym, ap, ◌∙◌, min, max, Bool, true, false, cond, length, nat_lt, Option, Some, None, IsSome, IsSomeAnd, slice_get, slice_index, get_or, arith, ℤ, ◌≤ℤ◌}
use Rattle.std.specs.Option.{option_map_or}
use Rattle.std.proofs.lemmas.Bool.{false≢true, cases_lt, eq-eqb}
use Rattle.std.proofs.lemmas.Bool.Decides.{nat_tests}
use Rattle.std.proofs.lemmas.Int.{ints}
use Rattle.std.proofs.lemmas.List.{get_or_past}
use Rattle.std.proofs.lemmas.Option.{slice_get_within, slice_get-get_or, get_or_from_slice_get}
use Rattle.conflict_matrix.specs.Matrix.{Matrix, IsMatrix, intergreen_of}
use Rattle.conflict_matrix.specs.Pairs.{pairs_of, pair_number_of, lower_first}
use Rattle.conflict_matrix.specs.PairLaws.{PairLaw, PairNumberLaw}
use Rattle.conflict_matrix.specs.declared.link.Link.{Link}
use Rattle.constraint_cycles.specs.Edge.{pair_weight, origin_weight, group_weight, linked_weight, links_weight, link_marks, greater, edge_weight}
use Rattle.constraint_cycles.specs.EdgeLaws.{PairAsks, ItemAsks, MarkAsks, IsAsked, AskedLaw, GreatestLaw, ApartLaw}
use Rattle.constraint_cycles.specs.Walk.{sum_of}
use Rattle.constraint_cycles.specs.declared.mark.Mark.{Mark}
use Rattle.constraint_cycles.specs.declared.mark.Mark.TheVariants.{Open}
use Rattle.constraint_cycles.proofs.Greater.{greater_is, greater_first, greater_second}
use Rattle.constraint_cycles.proofs.Refinement.{slice_get-drop}

pub both_below : (u v n : ℕ) → (nat_lt u n && nat_lt v n) ≡ true → (u < n) × (v < n)
both_below u v n h = grind (arith, nat_tests)

inside_from : (inside : Bool) (o : Option ℤ) (w : ℤ) → cond inside o None ≡ Some w → (inside ≡ true) × (o ≡ Some w)
inside_from true o w h = (refl, h)
inside_from false o w h = cc

-- an edge is between groups of the table
pub below_groups : (m : Matrix) (marks : List Mark) (needs : List ℕ) (cycle u v : ℕ) (w : ℤ) → edge_weight m marks needs cycle u v ≡ Some w → (u < m.groups) × (v < m.groups)
below_groups m marks needs cycle u v w h = both_below u v m.groups (inside_from (nat_lt u m.groups && nat_lt v m.groups) _ w h).0

-- what a mark that is read asks, its place holds
marked_weight : (marks : List Mark) (k green_and_intergreen cycle : ℕ) (lower : Bool) (w : ℤ) → pair_weight (get_or marks k Open) lower green_and_intergreen cycle ≡ Some w → slice_get marks k ≡ Some (get_or marks k Open)
marked_weight marks k green_and_intergreen cycle lower w h = elim (cases_lt k (length marks)) [
  | inl within ↦ slice_get-get_or marks k Open within
  | inr past ↦ absurd (cc (rw (get_or_past marks k Open past) at h))
]

pair_asks : (m : Matrix) (marks : List Mark) (needs : List ℕ) (cycle u v intergreen : ℕ) (w : ℤ) (number : Option ℕ) → intergreen_of m u v ≡ Some intergreen →
    ((k : ℕ) → number ≡ Some k → slice_get (pairs_of m) k ≡ Some (lower_first u v)) →
    pair_weight (option_map_or (λ k. get_or marks k Open) number Open) (nat_lt u v) (slice_index needs u + intergreen) cycle ≡ Some w → MarkAsks m marks needs cycle u v w
pair_asks m marks needs cycle u v intergreen w None between numbered h = cc
pair_asks m marks needs cycle u v intergreen w (Some k) between numbered h = record {
  item = k;
  mark = get_or marks k Open;
  marked = marked_weight marks k (slice_index needs u + intergreen) cycle (nat_lt u v) w h;
  asks = inl (record { intergreen = intergreen; pair = numbered k refl; between = between; weight = h });
}

group_asks : PairNumberLaw → (m : Matrix) (marks : List Mark) (needs : List ℕ) (cycle u v : ℕ) (w : ℤ) (intergreen : Option ℕ) → IsMatrix m → u < m.groups → v < m.groups →
    intergreen_of m u v ≡ intergreen →
    option_map_or (λ i. pair_weight (option_map_or (λ k. get_or marks k Open) (pair_number_of m u v) Open) (nat_lt u v) (slice_index needs u + i) cycle) intergreen (origin_weight cycle u v) ≡ Some w →
    IsAsked m marks needs cycle u v w
group_asks number m marks needs cycle u v w None matrix below_u below_v is h = inr (record { apart = λ c. false≢true (rw is at c); weight = h })
group_asks number m marks needs cycle u v w (Some intergreen) matrix below_u below_v is h =
    inl (pair_asks m marks needs cycle u v intergreen w (pair_number_of m u v) is (λ k at. rw at at (number m u v matrix below_u below_v)) h)

links_ask : (marks : List Mark) (links : List Link) (cycle u v : ℕ) (w : ℤ) → links_weight marks links cycle u v ≡ Some w →
    (k : ℕ) × (mark : Mark) × (link : Link) × (slice_get links k ≡ Some link) × (slice_get marks k ≡ Some mark) × (linked_weight mark link cycle u v ≡ Some w)
links_ask marks [] cycle u v w h = cc
links_ask [] (link ∷ links) cycle u v w h = cc
links_ask (mark ∷ marks) (link ∷ links) cycle u v w h = elim (greater_is (linked_weight mark link cycle u v) (links_weight marks links cycle u v) w h) [
  | inl here ↦ (0, mark, link, refl, refl, here)
  | inr later ↦ let found = links_ask marks links cycle u v w later in (suc found.0, found.1, found.2, found.3, found.4, found.5)
]

pub asked_law : PairNumberLaw → AskedLaw
asked_law number m marks needs cycle u v w matrix h =
    let inside = inside_from (nat_lt u m.groups && nat_lt v m.groups) _ w h in
    let below = both_below u v m.groups inside.0 in (
      below.0,
      below.1,
      elim (greater_is (group_weight m marks needs cycle u v) (links_weight (link_marks m marks) m.links cycle u v) w inside.1) [
        | inl group ↦ group_asks number m marks needs cycle u v w (intergreen_of m u v) matrix below.0 below.1 refl group
        | inr links ↦
            let found = links_ask (link_marks m marks) m.links cycle u v w links in
            inl (record {
              item = length (pairs_of m) + found.0;
              mark = found.1;
              marked = sym (slice_get-drop (length (pairs_of m)) marks found.0) ∙ found.4;
              asks = inr (record { number = found.0; link = found.2; behind_pairs = refl; there = found.3; weight = found.5 });
            })
      ],
    )

lower_number : (m : Matrix) (u v : ℕ) → pair_number_of m (min u v) (max u v) ≡ pair_number_of m u v
lower_number m u v =
    let low : min (min u v) (max u v) ≡ min u v = omega arith in
    let high : max (min u v) (max u v) ≡ max u v = omega arith in
    rw (low, high) refl

none_apart : (o : Option ℕ) → ¬ IsSome o → o ≡ None
none_apart None h = refl
none_apart (Some w) h = absurd (h refl)

group_asked : PairLaw → (m : Matrix) (marks : List Mark) (needs : List ℕ) (cycle u v item : ℕ) (mark : Mark) (w : ℤ) → slice_get marks item ≡ Some mark →
    PairAsks m item mark needs cycle u v w → group_weight m marks needs cycle u v ≡ Some w
group_asked pair m marks needs cycle u v item mark w marked h =
    let number : pair_number_of m u v ≡ Some item = sym (lower_number m u v) ∙ (pair m item (lower_first u v) h.pair).1 in
    rw (h.between, number, get_or_from_slice_get marks item mark Open marked) h.weight

at_least : (o : Option ℤ) (w : ℤ) → (x : ℤ) × (o ≡ Some x) × (w ≤ℤ x) → IsSomeAnd o (λ x. w ≤ℤ x)
at_least o w h = rw h.1 h.2

links_asked : (marks : List Mark) (links : List Link) (cycle u v k : ℕ) (mark : Mark) (link : Link) (w : ℤ) → slice_get links k ≡ Some link → slice_get marks k ≡ Some mark →
    linked_weight mark link cycle u v ≡ Some w → (x : ℤ) × (links_weight marks links cycle u v ≡ Some x) × (w ≤ℤ x)
links_asked marks [] cycle u v k mark link w there marked h = cc
links_asked [] (l ∷ links) cycle u v k mark link w there marked h = cc
links_asked (k0 ∷ marks) (l ∷ links) cycle u v zero mark link w there marked h =
    let same_link : l ≡ link = cc in
    let same_mark : k0 ≡ mark = cc in
    greater_first (linked_weight k0 l cycle u v) (links_weight marks links cycle u v) w w (rw (same_link, same_mark) h) (omega (arith, ints))
links_asked (k0 ∷ marks) (l ∷ links) cycle u v (suc k) mark link w there marked h =
    let later = links_asked marks links cycle u v k mark link w there marked h in
    greater_second (linked_weight k0 l cycle u v) (links_weight marks links cycle u v) later.0 w later.1 later.2

pub greatest_law : PairLaw → GreatestLaw
greatest_law pair m marks needs cycle u v w below_u below_v asked =
    let inside : (nat_lt u m.groups && nat_lt v m.groups) ≡ true = grind (arith, nat_tests) in
    let group = group_weight m marks needs cycle u v in
    let links = links_weight (link_marks m marks) m.links cycle u v in
    rw inside (at_least (greater group links) w (elim asked [
      | inl a ↦ elim a.asks [
        | inl p ↦ greater_first group links w w (group_asked pair m marks needs cycle u v a.item a.mark w a.marked p) (omega (arith, ints))
        | inr l ↦
            let marked = slice_get-drop (length (pairs_of m)) marks l.number ∙ ap (slice_get marks) (sym l.behind_pairs) ∙ a.marked in
            let found = links_asked (link_marks m marks) m.links cycle u v l.number a.mark l.link w l.there marked l.weight in
            greater_second group links found.0 w found.1 found.2
      ]
      | inr c ↦ greater_first group links w w (rw (none_apart (intergreen_of m u v) c.apart) c.weight) (omega (arith, ints))
    ]))

free_apart : (cycle u : ℕ) (w : ℤ) → origin_weight cycle u u ≡ Some w → ⊥
free_apart cycle u w h = cc (rw (eq-eqb u u refl) at h)

ends : (first second : Bool) (a b : Option ℤ) (w : ℤ) → (if first then a else if second then b else None) ≡ Some w → (first ≡ true) ⊎ (second ≡ true)
ends true second a b w h = inl refl
ends false true a b w h = inr refl
ends false false a b w h = cc

link_ends : (u leader follower : ℕ) → (u == leader && u == follower) ≡ true → leader ≡ follower
link_ends u leader follower h = grind (arith, nat_tests)

link_apart : (mark : Mark) (link : Link) (cycle u : ℕ) (w : ℤ) → linked_weight mark link cycle u u ≡ Some w → link.leader ≡ link.follower
link_apart mark link cycle u w h = elim (ends (u == link.leader && u == link.follower) (u == link.follower && u == link.leader) _ _ w h) [
  | inl leads ↦ link_ends u link.leader link.follower leads
  | inr follows ↦ sym (link_ends u link.follower link.leader follows)
]

item_apart : PairLaw → (m : Matrix) (item : ℕ) (mark : Mark) (needs : List ℕ) (cycle u : ℕ) (w : ℤ) → IsMatrix m → ¬ ItemAsks m item mark needs cycle u u w
item_apart pair m item mark needs cycle u w matrix (inl p) = let rising = (pair m item (lower_first u u) p.pair).0.rising in absurd (omega arith)
item_apart pair m item mark needs cycle u w matrix (inr l) =
    matrix.links.apart l.number (slice_get_within m.links l.number l.link l.there) (rw l.there (link_apart mark l.link cycle u w l.weight))

asked_apart : PairLaw → (m : Matrix) (marks : List Mark) (needs : List ℕ) (cycle u : ℕ) (w : ℤ) → IsMatrix m → ¬ IsAsked m marks needs cycle u u w
asked_apart pair m marks needs cycle u w matrix (inl a) = item_apart pair m a.item a.mark needs cycle u w matrix a.asks
asked_apart pair m marks needs cycle u w matrix (inr c) = free_apart cycle u w c.weight

no_weight : (o : Option ℤ) → ((w : ℤ) → o ≡ Some w → ⊥) → o ≡ None
no_weight None h = refl
no_weight (Some w) h = absurd (h w refl)

pub apart_law : PairLaw → PairNumberLaw → ApartLaw
apart_law pair number m marks needs cycle u matrix =
    no_weight (edge_weight m marks needs cycle u u) (λ w h. asked_apart pair m marks needs cycle u w matrix (asked_law number m marks needs cycle u u w matrix h).2)

-- so a walk of one group has no sum
pub alone_law : PairLaw → PairNumberLaw → (m : Matrix) (marks : List Mark) (needs : List ℕ) (cycle : ℕ) (walk : List ℕ) → IsMatrix m → length walk ≡ 1 →
    sum_of (edge_weight m marks needs cycle) walk ≡ None
alone_law pair number m marks needs cycle [] matrix one = absurd (omega arith)
alone_law pair number m marks needs cycle (u ∷ []) matrix one = apart_law pair number m marks needs cycle u matrix
alone_law pair number m marks needs cycle (u ∷ (v ∷ rest)) matrix one = absurd (omega arith)
