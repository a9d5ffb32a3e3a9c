-- Deciding an item adds an edge each way between its two groups, and leaves all others.
use Rattle.std.proofs.Common.{ℕ, List, ◌≡◌, ◌≢◌, ◌<◌, ◌≤◌, ◌+◌, ◌-◌, ◌⊎◌, ◌==◌, ◌&&◌, if◌then◌else◌, inl, inr, refl, sym, subst, ap, ◌∙◌, arith, Bool, true, false, min, max, Option, None, Some, IsSome, IsSomeAnd, MatchOption, nat_lt, length, slice_get, slice_index, slice_index_or, set, ℤ, ◌≤ℤ◌}
use Rattle.std.proofs.lemmas.Bool.{cases_eq, cases_lt, false≢true}
use Rattle.std.proofs.lemmas.Bool.Decides.{nat_tests}
use Rattle.std.proofs.lemmas.Int.{ints}
use Rattle.std.proofs.lemmas.Option.{same_Some, slice_get_within, slice_get-get_or}
use Rattle.sig_base.proofs.Option.{some_and}
use Rattle.conflict_matrix.specs.Matrix.{Matrix, IsMatrix, intergreen_of}
use Rattle.conflict_matrix.specs.Links.{AreLinks}
use Rattle.conflict_matrix.specs.Pairs.{pairs_of, lower_first}
use Rattle.conflict_matrix.specs.PairLaws.{PairLaw}
use Rattle.conflict_matrix.specs.declared.link.Link.{Link}
use Rattle.constraint_cycles.specs.Edge.{pair_weight, link_weight, linked_weight, edge_weight}
use Rattle.constraint_cycles.specs.EdgeLaws.{ItemAsks, IsAsked, IsLinkOf, IsItemOf, AskedLaw, GreatestLaw, DecidedLaw, OtherEdgeLaw}
use Rattle.constraint_cycles.specs.declared.mark.Mark.{Mark}
use Rattle.constraint_cycles.specs.declared.mark.Mark.TheVariants.{Open, First, Second}
use Rattle.difference_system.specs.Ends.{AreEndsAmong}
use Rattle.difference_system.specs.Sums.{asks_of, sum_of, with_edges, AreSums, AreEdgesAmong, AreWithEdges, MakesCycle, MakesNoCycle, IsSummed}
use Rattle.difference_system.specs.Decision.{AreDecisionEdges, LeavesOpen}
use Rattle.constraint_cycles.specs.Starts.{MeetsEdges}
use Rattle.difference_system.specs.declared.sums.matrix.Sums.{Sums}
use Rattle.difference_system.specs.declared.sums.matrix.TwoEdges.{TwoEdges}
use Rattle.difference_system.proofs.AreSums.{AsksNoMore, meets_less, sums_same, cycle_closes, sums_with_edges}
use Rattle.difference_system.proofs.Spokes.{some_if}

-- two groups, in either sense
abbrev AreSame : ℕ → ℕ → ℕ → ℕ → Type 0
AreSame i j u v = ((u ≡ i) × (v ≡ j)) ⊎ ((u ≡ j) × (v ≡ i))

same_pair : (i j u v : ℕ) → lower_first u v ≡ (i, j) → AreSame i j u v
same_pair i j u v e =
    let low : min u v ≡ i = ap (λ p. p.0) e in
    let high : max u v ≡ j = ap (λ p. p.1) e in
    elim (cases_lt v u) [
      | inl falling ↦ inr (omega arith, omega arith)
      | inr rising ↦ inl (omega arith, omega arith)
    ]

same_link : (o : Option Link) (i j u v : ℕ) → IsSomeAnd o (λ link. (link.leader ≡ i) × (link.follower ≡ j)) → IsSomeAnd o (λ link. IsLinkOf link u v) → AreSame i j u v
same_link None i j u v h is = absurd h
same_link (Some link) i j u v h (inl leads) = inl (leads.0 ∙ h.0, leads.1 ∙ h.1)
same_link (Some link) i j u v h (inr follows) = inr (follows.0 ∙ h.1, follows.1 ∙ h.0)

-- a decided item asks for a weight each way
pair_some : (mark : Mark) (lower : Bool) (asked cycle : ℕ) → mark ≢ Open → (w : ℤ) × (pair_weight mark lower asked cycle ≡ Some w)
pair_some Open lower asked cycle decides = absurd (decides refl)
pair_some First true asked cycle decides = (_, refl)
pair_some First false asked cycle decides = (_, refl)
pair_some Second true asked cycle decides = (_, refl)
pair_some Second false asked cycle decides = (_, refl)

link_some : (mark : Mark) (leads : Bool) (wait cycle : ℕ) → mark ≢ Open → (w : ℤ) × (link_weight mark leads wait cycle ≡ Some w)
link_some Open leads wait cycle decides = absurd (decides refl)
link_some First true wait cycle decides = (_, refl)
link_some First false wait cycle decides = (_, refl)
link_some Second true wait cycle decides = (_, refl)
link_some Second false wait cycle decides = (_, refl)

one_some : (first second : Bool) (a b : Option ℤ) → (first ≡ true) ⊎ (second ≡ true) → (w : ℤ) × (a ≡ Some w) → (w : ℤ) × (b ≡ Some w) →
    (w : ℤ) × ((if first then a else if second then b else None) ≡ Some w)
one_some true second a b one p q = p
one_some false true a b one p q = q
one_some false false a b (inl h) p q = absurd (false≢true h)
one_some false false a b (inr h) p q = absurd (false≢true h)

both_test : (u a v b : ℕ) → u ≡ a → v ≡ b → (u == a && v == b) ≡ true
both_test u a v b p q = grind (arith, nat_tests)

linked_some : (mark : Mark) (link : Link) (cycle u v : ℕ) → mark ≢ Open → IsLinkOf link u v → (w : ℤ) × (linked_weight mark link cycle u v ≡ Some w)
linked_some mark link cycle u v decides is = one_some (u == link.leader && v == link.follower) (u == link.follower && v == link.leader) _ _ (elim is [
  | inl leads ↦ inl (both_test u link.leader v link.follower leads.0 leads.1)
  | inr follows ↦ inr (both_test u link.follower v link.leader follows.0 follows.1)
]) (link_some mark true _ cycle decides) (link_some mark false _ cycle decides)

some_of : (o : Option ℕ) → IsSome o → (x : ℕ) × (o ≡ Some x)
some_of None h = absurd (false≢true h)
some_of (Some x) h = (x, refl)

found_link : (o : Option Link) (P : Link → Type 0) → IsSomeAnd o P → (link : Link) × (o ≡ Some link) × P link
found_link None P h = absurd h
found_link (Some link) P h = (link, refl, h)

pub pair_ends : PairLaw → (m : Matrix) (item : ℕ) (pair : ℕ × ℕ) → slice_get (pairs_of m) item ≡ Some pair → AreEndsAmong m item pair
pair_ends pair_law m item pair at =
    let rule = (pair_law m item pair at).0 in
    record { of_item = inl at; first = omega (arith, rule.rising, rule.within); second = rule.within }

pub link_ends : (m : Matrix) (item pairs : ℕ) (read : List Link) (d : Link) → pairs ≡ length (pairs_of m) → read ≡ m.links → pairs ≤ item →
    item < length (pairs_of m) + length m.links → AreLinks m.groups m.links →
    AreEndsAmong m item ((slice_index_or read (item - pairs) d).leader, (slice_index_or read (item - pairs) d).follower)
link_ends m item pairs read d is same past below links =
    let inside : item - length (pairs_of m) < length m.links = omega (arith, is, past, below) in
    let within = links.linkable.within (item - length (pairs_of m)) d inside in
    rw (is, same) (record {
      of_item = inr (omega (arith, is, past), rw (slice_get-get_or m.links (item - length (pairs_of m)) d inside) (refl, refl));
      first = within.leader;
      second = within.follower;
    })

module _ (pair_law : PairLaw) (m : Matrix) (matrix : IsMatrix m) (item i j : ℕ) (ends : AreEndsAmong m item (i, j)) where
  only_ends : (u v : ℕ) → IsItemOf m item u v → AreSame i j u v
  only_ends u v is = elim ends.of_item [
    | inl pair ↦ elim is [
      | inl same ↦ same_pair i j u v (same_Some (lower_first u v) (i, j) (sym same ∙ pair))
      | inr link ↦ let below = slice_get_within (pairs_of m) item (i, j) pair in let past = link.0 in absurd (omega arith)
    ]
    | inr link ↦ elim is [
      | inl pair ↦ let below = slice_get_within (pairs_of m) item (lower_first u v) pair in let past = link.0 in absurd (omega arith)
      | inr same ↦ same_link (slice_get m.links (item - length (pairs_of m))) i j u v link.1 same.1
    ]
  ]

  module _ (mark : Mark) (decides : mark ≢ Open) (needs : List ℕ) (cycle : ℕ) where
    pair_asks : (u v : ℕ) → slice_get (pairs_of m) item ≡ Some (i, j) → AreSame i j u v → (w : ℤ) × ItemAsks m item mark needs cycle u v w
    pair_asks u v pair same =
        let rule = (pair_law m item (i, j) pair).0 in
        let rising : i < j = rule.rising in
        let few : m.groups ≤ 16 = matrix.few.1 in
        let within : j < m.groups = rule.within in
        let named : lower_first u v ≡ (i, j) = elim same [
          | inl e ↦ rw (e.0, e.1) (let a : min i j ≡ i = omega arith in let b : max i j ≡ j = omega arith in rw (a, b) refl)
          | inr e ↦ rw (e.0, e.1) (let a : min j i ≡ i = omega arith in let b : max j i ≡ j = omega arith in rw (a, b) refl)
        ] in
        let between : IsSome (intergreen_of m u v) = elim same [
          | inl e ↦ rw (e.0, e.1) rule.conflicting
          | inr e ↦ rw (e.0, e.1) (matrix.symmetric i j (omega arith) (omega arith) rule.conflicting)
        ] in
        let intergreen = some_of (intergreen_of m u v) between in
        let weight = pair_some mark (nat_lt u v) (slice_index needs u + intergreen.0) cycle decides in
        (weight.0, inl (record { intergreen = intergreen.0; pair = pair ∙ ap Some (sym named); between = intergreen.1; weight = weight.1 }))

    link_asks : (u v : ℕ) → length (pairs_of m) ≤ item → IsSomeAnd (slice_get m.links (item - length (pairs_of m))) (λ link. (link.leader ≡ i) × (link.follower ≡ j)) → AreSame i j u v →
        (w : ℤ) × ItemAsks m item mark needs cycle u v w
    link_asks u v past found_there same =
        let found = found_link (slice_get m.links (item - length (pairs_of m))) _ found_there in
        let link = found.0 in
        let of_link : IsLinkOf link u v = elim same [
          | inl e ↦ inl (e.0 ∙ sym found.2.0, e.1 ∙ sym found.2.1)
          | inr e ↦ inr (e.0 ∙ sym found.2.1, e.1 ∙ sym found.2.0)
        ] in
        let weight = linked_some mark link cycle u v decides of_link in
        (weight.0, inr (record { number = item - length (pairs_of m); link = link; behind_pairs = omega arith; there = found.1; weight = weight.1 }))

    ends_asked : (u v : ℕ) → AreSame i j u v → (w : ℤ) × ItemAsks m item mark needs cycle u v w
    ends_asked u v same = elim ends.of_item [
      | inl pair ↦ pair_asks u v pair same
      | inr link ↦ link_asks u v link.0 link.1 same
    ]

    module _ (asked_law : AskedLaw) (greatest_law : GreatestLaw) (decided_law : DecidedLaw) (other_law : OtherEdgeLaw) (marks : List Mark) (was_open : slice_get marks item ≡ Some Open) where
      asked_edge : (u v : ℕ) (w : ℤ) → u < m.groups → v < m.groups → IsAsked m (set marks item mark) needs cycle u v w →
          IsSomeAnd (edge_weight m (set marks item mark) needs cycle u v) (λ greatest. w ≤ℤ greatest)
      asked_edge u v w in_u in_v asked = greatest_law m (set marks item mark) needs cycle u v w in_u in_v asked

      pub end_edges : (u v : ℕ) → u < m.groups → v < m.groups → AreSame i j u v → IsSome (edge_weight m (set marks item mark) needs cycle u v)
      end_edges u v in_u in_v same =
          let asks = ends_asked u v same in
          some_if _ (λ greatest. asks.0 ≤ℤ greatest) (asked_edge u v asks.0 in_u in_v ((decided_law m marks needs cycle item mark u v asks.0 was_open).1 (inr asks.1)))

      module _ (forth back : ℤ) (there : edge_weight m (set marks item mark) needs cycle i j ≡ Some forth) (again : edge_weight m (set marks item mark) needs cycle j i ≡ Some back) where
        abbrev edges : TwoEdges
        edges = record { from = i; to = j; forth = forth; back = back }

        before_less : AsksNoMore (with_edges (asks_of (edge_weight m marks needs cycle)) edges) (asks_of (edge_weight m (set marks item mark) needs cycle))
        before_less u v w (inl is) =
            let asked = asked_law m marks needs cycle u v w matrix is in
            some_and _ (λ x. w ≤ℤ x) (asked_edge u v w asked.0 asked.1 ((decided_law m marks needs cycle item mark u v w was_open).1 (inl asked.2)))
        before_less u v w (inr (inl e)) = rw (e.0, e.1, e.2) (forth, there, omega (arith, ints))
        before_less u v w (inr (inr e)) = rw (e.0, e.1, e.2) (back, again, omega (arith, ints))

        after_less : AsksNoMore (asks_of (edge_weight m (set marks item mark) needs cycle)) (with_edges (asks_of (edge_weight m marks needs cycle)) edges)
        after_less u v w is = elim (ends_or_not u v) [
          | inl same ↦ elim same [
            | inl e ↦
                let here = subst (λ x. edge_weight m (set marks item mark) needs cycle x j ≡ Some w) e.0 (subst (λ x. edge_weight m (set marks item mark) needs cycle u x ≡ Some w) e.1 is) in
                (w, inr (inl (e.0, e.1, same_Some w forth (sym here ∙ there))), omega (arith, ints))
            | inr e ↦
                let here = subst (λ x. edge_weight m (set marks item mark) needs cycle x i ≡ Some w) e.0 (subst (λ x. edge_weight m (set marks item mark) needs cycle u x ≡ Some w) e.1 is) in
                (w, inr (inr (e.0, e.1, same_Some w back (sym here ∙ again))), omega (arith, ints))
          ]
          | inr other ↦ (w, inl (sym (other_law m marks needs cycle item mark u v was_open (λ of_item. other (only_ends u v of_item))) ∙ is), omega (arith, ints))
        ]
          where
            ends_or_not : (u v : ℕ) → AreSame i j u v ⊎ (¬ AreSame i j u v)
            ends_or_not u v = elim (cases_eq u i) [
              | inl a ↦ elim (cases_eq v j) [
                | inl b ↦ inl (inl (a, b))
                | inr b ↦ elim (cases_eq u j) [
                  | inl c ↦ elim (cases_eq v i) [ inl d ↦ inl (inr (c, d)) | inr d ↦ inr (λ same. elim same [ inl e ↦ b e.1 | inr e ↦ d e.1 ]) ]
                  | inr c ↦ inr (λ same. elim same [ inl e ↦ b e.1 | inr e ↦ c e.0 ])
                ]
              ]
              | inr a ↦ elim (cases_eq u j) [
                | inl c ↦ elim (cases_eq v i) [ inl d ↦ inl (inr (c, d)) | inr d ↦ inr (λ same. elim same [ inl e ↦ a e.0 | inr e ↦ d e.1 ]) ]
                | inr c ↦ inr (λ same. elim same [ inl e ↦ a e.0 | inr e ↦ c e.0 ])
              ]
            ]

        pub decided : (old : ℕ → ℕ → ℤ) → AreSums m.groups (asks_of (edge_weight m marks needs cycle)) old → AreEdgesAmong m.groups edges → (found : Option Sums) →
            MatchOption found (MakesCycle old edges) (λ new. AreWithEdges m.groups old edges (sum_of new)) →
            IsSummed m.groups (edge_weight m (set marks item mark) needs cycle) found
        decided old h among None cycle_made = λ starts meets.
            cycle_closes m.groups (asks_of (edge_weight m marks needs cycle)) old h _ among cycle_made starts (meets_less _ _ before_less starts meets)
        decided old h among (Some new) with_them =
            sums_same m.groups (with_edges (asks_of (edge_weight m marks needs cycle)) _) (asks_of (edge_weight m (set marks item mark) needs cycle)) (sum_of new) before_less after_less
            (sums_with_edges m.groups (asks_of (edge_weight m marks needs cycle)) old h _ among (sum_of new) with_them
            (λ x y w is. let asked = asked_law m marks needs cycle x y w matrix is in (asked.0, asked.1)))

module _ (pair_law : PairLaw) (m : Matrix) (matrix : IsMatrix m) (item : ℕ) (mark : Mark) (decides : mark ≢ Open) (needs : List ℕ) (cycle : ℕ)
    (asked_law : AskedLaw) (greatest_law : GreatestLaw) (decided_law : DecidedLaw) (other_law : OtherEdgeLaw) (marks : List Mark) (was_open : slice_get marks item ≡ Some Open)
    (next : List Mark) (is : next ≡ set marks item mark) (e : TwoEdges) (own : AreDecisionEdges m next needs cycle item e)
    (old : ℕ → ℕ → ℤ) (h : AreSums m.groups (asks_of (edge_weight m marks needs cycle)) old) where
  summed : (found : Option Sums) → MatchOption found (MakesCycle old e) (λ new. AreWithEdges m.groups old e (sum_of new)) → IsSummed m.groups (edge_weight m next needs cycle) found
  summed found with_them = subst (λ (ms : List Mark). IsSummed m.groups (edge_weight m ms needs cycle) found) (sym is)
      (decided pair_law m matrix item e.from e.to own.ends mark decides needs cycle asked_law greatest_law decided_law other_law marks was_open
      e.forth e.back (rw is at own.forth) (rw is at own.back) old h own.among found with_them)

  -- where the two edges make no positive cycle, they leave starts
  pub left_open : MakesNoCycle old e → LeavesOpen m next needs cycle old e
  left_open none = record { among = own.among; no_cycle = none; sums = λ new with_them. summed (Some new) with_them }

  -- and where they make one, none
  pub left_closed : MakesCycle old e → (starts : List ℕ) → ¬ MeetsEdges (edge_weight m next needs cycle) starts
  left_closed positive = summed None positive
