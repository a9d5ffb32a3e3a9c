-- The list of due items, as it is made pair after pair and link after link.
use Rattle.std.proofs.Common.{ℕ, List, [], ◌∷◌, ◌++◌, ◌≡◌, ◌+◌, ◌-◌, ◌<◌, ◌≤◌, ◌⊎◌, inl, inr, Some, length, length-append, refl, subst, ap, ◌∙◌, arith, slice_get, slice_index, get_or, replicate}
use Rattle.std.proofs.Math.Nat.{min-eq_left, max-eq_right}
use Rattle.std.proofs.lemmas.Bool.{cases_lt, cases_eq}
use Rattle.std.proofs.lemmas.List.{get_or-replicate, get_or_append_left, get_or-append_right, length-replicate}
use Rattle.std.proofs.lemmas.Option.{slice_get_within, slice_get-get_or, get_or_from_slice_get}
use Rattle.conflict_matrix.specs.Matrix.{Matrix, AreConflicting}
use Rattle.conflict_matrix.specs.Pairs.{pairs_of, fixed_pairs, lower_first}
use Rattle.conflict_matrix.specs.PairLaws.{PairLaw, RisingPairsLaw, PairSumLaw}
use Rattle.constraint_cycles.specs.Marks.{item_count, root_marks}
use Rattle.constraint_cycles.specs.OrderLaws.{RootLaw}
use Rattle.constraint_cycles.specs.declared.mark.Mark.TheVariants.{Open, First}
use Rattle.cycle_orders.specs.Due.{IsEarlierPair, IsOpenItem}
use Rattle.cycle_orders.specs.DueItems.{IsListed, AreDueItems, IsFreePairBelow, AreFreePairsBelow, IsOpenBelowLink, AreOpenBelowLink}
use Rattle.cycle_orders.proofs.DueOrder.{few, each_longer, rising_longer, listed_longer, listed_last}

-- two numbers of one pair are the same
same_number : RisingPairsLaw → (m : Matrix) (k n : ℕ) (pair : ℕ × ℕ) → slice_get (pairs_of m) k ≡ Some pair → slice_get (pairs_of m) n ≡ Some pair → k ≡ n
same_number rising m k n pair at other_at = elim (cases_lt k n) [
  | inl below ↦ elim (rising m k n pair pair at other_at below) [ inl h ↦ absurd (omega arith) | inr h ↦ absurd (omega (arith, h.1)) ]
  | inr past ↦ elim (cases_lt n k) [
    | inl below ↦ elim (rising m n k pair pair other_at at below) [ inl h ↦ absurd (omega arith) | inr h ↦ absurd (omega (arith, h.1)) ]
    | inr no_less ↦ omega arith
  ]
]

earlier_still : (pair : ℕ × ℕ) (lower group : ℕ) → IsEarlierPair pair (lower, group) → IsEarlierPair pair (lower + 1, group)
earlier_still pair lower group (inl h) = inl h
earlier_still pair lower group (inr h) = inr (h.0, omega (arith, h.1))

-- earlier than the next bound: earlier than this one, or this pair
earlier_or_same : (pair : ℕ × ℕ) (lower group : ℕ) → IsEarlierPair pair (lower + 1, group) → IsEarlierPair pair (lower, group) ⊎ (pair ≡ (lower, group))
earlier_or_same pair lower group (inl h) = inl (inl h)
earlier_or_same pair lower group (inr h) = elim (cases_lt pair.0 lower) [
  | inl below ↦ inl (inr (h.0, below))
  | inr past ↦ inr (let first : pair.0 ≡ lower = omega (arith, h.1) in ap (λ x. (x, pair.1)) first ∙ ap (λ x. (lower, x)) h.0)
]

module _ (m : Matrix) (items : List ℕ) (lower group : ℕ) (h : AreFreePairsBelow m (lower, group) items) where
  -- the groups of the bound are a pair
  pub pair_pushed : RisingPairsLaw → (item : ℕ) → slice_get (pairs_of m) item ≡ Some (lower, group) → 1 ≤ lower →
      AreFreePairsBelow m (lower + 1, group) (items ++ item ∷ [])
  pair_pushed rising item at some = record {
    rising = rising_longer m items item h.rising (λ k below.
        let free = h.each k below in
        inl (record { pair = free.pair; other_pair = (lower, group); at = free.at; other_at = at; earlier = free.earlier }));
    each = each_longer m items item (IsFreePairBelow m (lower + 1, group))
        (λ k below. let free = h.each k below in record { pair = free.pair; at = free.at; free = free.free; earlier = earlier_still free.pair lower group free.earlier })
        (record { pair = (lower, group); at = at; free = some; earlier = inr (refl, omega arith) });
    all = λ other free. elim (earlier_or_same free.pair lower group free.earlier) [
      | inl earlier ↦ listed_longer m items item other (h.all other (record { pair = free.pair; at = free.at; free = free.free; earlier = earlier }))
      | inr same ↦
          let is : item ≡ other = same_number rising m item other (lower, group) at (free.at ∙ ap (λ p. Some p) same) in
          subst (IsListed (items ++ item ∷ [])) is (listed_last m items item)
    ];
  }

  -- they aren't
  pub pair_skipped : PairLaw → ¬ AreConflicting m lower group → AreFreePairsBelow m (lower + 1, group) items
  pair_skipped pair_law no_conflict = record {
    rising = h.rising;
    each = λ k below. let free = h.each k below in record { pair = free.pair; at = free.at; free = free.free; earlier = earlier_still free.pair lower group free.earlier };
    all = λ other free. elim (earlier_or_same free.pair lower group free.earlier) [
      | inl earlier ↦ h.all other (record { pair = free.pair; at = free.at; free = free.free; earlier = earlier })
      | inr same ↦
          let is = (pair_law m other free.pair free.at).0 in
          absurd (no_conflict (subst (λ p. AreConflicting m p.0 p.1) same is.conflicting))
    ];
  }

  pub few_pairs : length items ≤ length (pairs_of m)
  few_pairs = few m items (length (pairs_of m)) h.rising (λ k below. let free = h.each k below in slice_get_within (pairs_of m) (slice_index items k) free.pair free.at)

-- all lower groups were looked at
earlier_than_next : (pair : ℕ × ℕ) (group : ℕ) → IsEarlierPair pair (group, group) → IsEarlierPair pair (1, group + 1)
earlier_than_next pair group (inl h) = inl (omega arith)
earlier_than_next pair group (inr h) = inl (omega (arith, h.0))

earlier_than_own : (pair : ℕ × ℕ) (group : ℕ) → pair.0 < pair.1 → 1 ≤ pair.0 → IsEarlierPair pair (1, group + 1) → IsEarlierPair pair (group, group)
earlier_than_own pair group rising some (inl h) = elim (cases_lt pair.1 group) [
  | inl below ↦ inl below
  | inr past ↦ inr (omega arith, omega arith)
]
earlier_than_own pair group rising some (inr h) = absurd (omega (arith, h.1))

pub row_done : PairLaw → (m : Matrix) (items : List ℕ) (group : ℕ) → AreFreePairsBelow m (group, group) items → AreFreePairsBelow m (1, group + 1) items
row_done pair_law m items group h = record {
  rising = h.rising;
  each = λ k below. let free = h.each k below in record { pair = free.pair; at = free.at; free = free.free; earlier = earlier_than_next free.pair group free.earlier };
  all = λ other free.
      let is = (pair_law m other free.pair free.at).0 in
      h.all other (record { pair = free.pair; at = free.at; free = free.free; earlier = earlier_than_own free.pair group is.rising free.free free.earlier });
}

-- no pair is earlier than the first two groups
none_earlier : (pair : ℕ × ℕ) → pair.0 < pair.1 → 1 ≤ pair.0 → IsEarlierPair pair (1, 1) → ⊥
none_earlier pair rising some (inl h) = omega arith
none_earlier pair rising some (inr h) = omega (arith, h.1)

pub none_yet : PairLaw → (m : Matrix) → AreFreePairsBelow m (1, 1) []
none_yet pair_law m = record {
  rising = λ k l below within. absurd (omega arith);
  each = λ k below. absurd (omega arith);
  all = λ other free. let is = (pair_law m other free.pair free.at).0 in absurd (none_earlier free.pair is.rising free.free free.earlier);
}

-- the open items of the root order are those that aren't fixed
module _ (root : RootLaw) (m : Matrix) where
  pub root_open : (item : ℕ) → fixed_pairs m ≤ item → item < item_count m → IsOpenItem (root_marks m) item
  root_open item unfixed within =
      let long : length (replicate (fixed_pairs m) First) ≡ fixed_pairs m = length-replicate (fixed_pairs m) First in
      let all : length (replicate (fixed_pairs m) First ++ replicate (item_count m - fixed_pairs m) Open) ≡ item_count m =
      length-append (replicate (fixed_pairs m) First) (replicate (item_count m - fixed_pairs m) Open) ∙ omega (arith, long, length-replicate (item_count m - fixed_pairs m) Open) in
      let here : get_or (replicate (fixed_pairs m) First ++ replicate (item_count m - fixed_pairs m) Open) item Open ≡ Open =
      get_or-append_right (replicate (fixed_pairs m) First) (replicate (item_count m - fixed_pairs m) Open) (fixed_pairs m) item Open long unfixed
      ∙ get_or-replicate (item_count m - fixed_pairs m) (item - fixed_pairs m) Open Open (omega arith) in
      rw (root m).0 (slice_get-get_or _ item Open (omega arith) ∙ ap (λ x. Some x) here)

  pub open_unfixed : (item : ℕ) → IsOpenItem (root_marks m) item → fixed_pairs m ≤ item
  open_unfixed item is_open = elim (cases_lt item (fixed_pairs m)) [
    | inr past ↦ past
    | inl below ↦
        let long : length (replicate (fixed_pairs m) First) ≡ fixed_pairs m = length-replicate (fixed_pairs m) First in
        let here : get_or (replicate (fixed_pairs m) First ++ replicate (item_count m - fixed_pairs m) Open) item Open ≡ Open = get_or_from_slice_get _ item Open Open (rw (root m).0 at is_open) in
        let there : get_or (replicate (fixed_pairs m) First ++ replicate (item_count m - fixed_pairs m) Open) item Open ≡ First =
        get_or_append_left (replicate (fixed_pairs m) First) (replicate (item_count m - fixed_pairs m) Open) Open item (omega arith) ∙ get_or-replicate (fixed_pairs m) item First Open below in
        absurd (cc)
  ]

  -- the pairs that aren't fixed are those without group 0
  pub links_begun : PairLaw → (items : List ℕ) → AreFreePairsBelow m (1, m.groups) items → AreOpenBelowLink m 0 items
  links_begun pair_law items h = record {
    rising = h.rising;
    each = λ k below.
        let free = h.each k below in
        let within = slice_get_within (pairs_of m) (slice_index items k) free.pair free.at in
        record {
          is_open = root_open (slice_index items k) (unfixed_pair (slice_index items k) free.pair free.at free.free) (omega arith);
          below = omega arith;
        };
    all = λ other is.
        let within : other < length (pairs_of m) = omega (arith, is.below) in
        let at = slice_get-get_or (pairs_of m) other (0, 0) within in
        let pair = pair_law m other (get_or (pairs_of m) other (0, 0)) at in
        h.all other (record {
          pair = get_or (pairs_of m) other (0, 0);
          at = at;
          free = free_pair other (get_or (pairs_of m) other (0, 0)) at (open_unfixed other is.is_open);
          earlier = inl pair.0.within;
        });
  }
    where
      unfixed_pair : (item : ℕ) (pair : ℕ × ℕ) → slice_get (pairs_of m) item ≡ Some pair → 1 ≤ pair.0 → fixed_pairs m ≤ item
      unfixed_pair item pair at free = elim (cases_lt item (fixed_pairs m)) [
        | inl below ↦ let none = ((root m).1 item pair at).1 below in absurd (omega arith)
        | inr past ↦ past
      ]

      free_pair : (item : ℕ) (pair : ℕ × ℕ) → slice_get (pairs_of m) item ≡ Some pair → fixed_pairs m ≤ item → 1 ≤ pair.0
      free_pair item pair at unfixed = elim (cases_eq pair.0 0) [
        | inl none ↦ let below = ((root m).1 item pair at).0 none in absurd (omega arith)
        | inr some ↦ omega (arith, some)
      ]

  -- one more link
  pub link_pushed : PairSumLaw → (items : List ℕ) (link : ℕ) → link < length m.links → AreOpenBelowLink m link items →
      AreOpenBelowLink m (link + 1) (items ++ (length (pairs_of m) + link) ∷ [])
  link_pushed sum items link within h =
      let unfixed : fixed_pairs m ≤ length (pairs_of m) = omega (arith, sum m) in
      let item : ℕ = length (pairs_of m) + link in
      record {
        rising = rising_longer m items item h.rising (λ k below. inr (omega arith, (h.each k below).below));
        each = each_longer m items item (IsOpenBelowLink m (link + 1))
            (λ k below. let is = h.each k below in record { is_open = is.is_open; below = omega (arith, is.below) })
            (record { is_open = root_open item (omega arith) (omega arith); below = omega arith });
        all = λ other is. elim (cases_lt other item) [
          | inl below ↦ listed_longer m items item other (h.all other (record { is_open = is.is_open; below = below }))
          | inr past ↦ let same : item ≡ other = omega (arith, is.below) in subst (IsListed (items ++ item ∷ [])) same (listed_last m items item)
        ];
      }

  pub links_done : (items : List ℕ) → length (root_marks m) ≡ item_count m → AreOpenBelowLink m (length m.links) items → AreDueItems m items
  links_done items long h = record {
    rising = h.rising;
    each = λ k below. (h.each k below).is_open;
    all = λ other is. h.all other (record { is_open = is; below = omega (arith, slice_get_within (root_marks m) other Open is, long) });
  }

pub few_open : (m : Matrix) (items : List ℕ) (link : ℕ) → AreOpenBelowLink m link items → length items ≤ length (pairs_of m) + link
few_open m items link h = few m items (length (pairs_of m) + link) h.rising (λ k below. (h.each k below).below)

pub rising_pair : (lower group : ℕ) → lower < group → lower_first lower group ≡ (lower, group)
rising_pair lower group below =
    let no_more : lower ≤ group = omega arith in
    rw (min-eq_left no_more, max-eq_right no_more) refl

pub root_long : RootLaw → PairSumLaw → (m : Matrix) → length (root_marks m) ≡ item_count m
root_long root sum m =
    ap length (root m).0 ∙ length-append (replicate (fixed_pairs m) First) (replicate (item_count m - fixed_pairs m) Open)
    ∙ omega (arith, sum m, length-replicate (fixed_pairs m) First, length-replicate (item_count m - fixed_pairs m) Open)
