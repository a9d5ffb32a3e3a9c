-- The root order has only edges with group 0; so its sums lead by way of it.
use Rattle.std.proofs.Common.{ℕ, List, ◌≡◌, ◌≢◌, ◌+◌, ◌-◌, ◌++◌, ◌<◌, ◌≤◌, ◌⊎◌, ◌==◌, if◌then◌else◌, inl, inr, refl, sym, subst, ap, ◌∙◌, arith, Bool, true, false, min, Option, None, Some, IsSome, IsSomeAnd, slice_get, replicate, ℤ, pos, ◌+ℤ◌, ◌-ℤ◌, ◌≤ℤ◌, slice_index, set, length}
use Rattle.std.specs.Prelude.{MatchBool}
use Rattle.std.proofs.lemmas.Bool.{cases_eq, cases_lt}
use Rattle.std.proofs.lemmas.Bool.Decides.{nat_tests}
use Rattle.std.proofs.lemmas.Int.{ints}
use Rattle.std.proofs.lemmas.List.{get_or-set_same, get_or-set_other, get_or-append_right, get_or-replicate, length-append, length-replicate}
use Rattle.std.proofs.lemmas.Option.{same_Some, none-some, slice_get_within, get_or_from_slice_get}
use Rattle.conflict_matrix.specs.Matrix.{Matrix, IsMatrix}
use Rattle.conflict_matrix.specs.Pairs.{fixed_pairs, lower_first}
use Rattle.conflict_matrix.specs.PairLaws.{PairSumLaw}
use Rattle.constraint_cycles.specs.Edge.{Edges, IsWeight, origin_weight, edge_weight}
use Rattle.constraint_cycles.specs.EdgeLaws.{IsAsked, ItemAsks, AskedLaw, ApartLaw}
use Rattle.constraint_cycles.specs.Marks.{root_marks}
use Rattle.constraint_cycles.specs.OrderLaws.{RootLaw}
use Rattle.constraint_cycles.specs.Starts.{MeetsEdges}
use Rattle.constraint_cycles.specs.declared.mark.Mark.{Mark}
use Rattle.constraint_cycles.specs.declared.mark.Mark.TheVariants.{Open, First}
use Rattle.constraint_cycles.proofs.Decisions.{open_asks_nothing}
use Rattle.difference_system.specs.Sums.{asks_of, AreSums}
use Rattle.difference_system.specs.Spokes.{AreSpokesBelow, HasCycle, HasNoCycle, IsRootSum, out_of, home_of}
use Rattle.difference_system.specs.declared.sums.root.Spokes.{Spokes}

-- every edge leads from group 0 or to it, between two groups
abbrev pub IsStar : ℕ → Edges → Type 0
IsStar groups edge = (u v : ℕ) (w : ℤ) → edge u v ≡ Some w → (u < groups) × (v < groups) × (u ≢ v) × ((u ≡ 0) ⊎ (v ≡ 0))

module _ (groups : ℕ) (edge : Edges) (s : Spokes) (h : AreSpokesBelow edge groups s) where
  out_least : (starts : List ℕ) → MeetsEdges edge starts → (g : ℕ) → g < groups → out_of s g ≤ℤ (pos (slice_index starts g) -ℤ pos (slice_index starts 0))
  out_least starts meets g below = elim (cases_eq g 0) [
    | inl zero ↦ rw zero (let own = h.own_out in omega (arith, ints, own))
    | inr other ↦ meets 0 g (out_of s g) (h.out g (omega (arith, other)) below)
  ]

  home_least : (starts : List ℕ) → MeetsEdges edge starts → (g : ℕ) → g < groups → home_of s g ≤ℤ (pos (slice_index starts 0) -ℤ pos (slice_index starts g))
  home_least starts meets g below = elim (cases_eq g 0) [
    | inl zero ↦ rw zero (let own = h.own_home in omega (arith, ints, own))
    | inr other ↦ meets g 0 (home_of s g) (h.home g (omega (arith, other)) below)
  ]

  pub spokes_close : (g : ℕ) → HasCycle groups s g → (starts : List ℕ) → ¬ MeetsEdges edge starts
  spokes_close g cycle starts meets =
      let out = out_least starts meets g cycle.0 in
      let home = home_least starts meets g cycle.0 in
      let positive = cycle.1 in
      absurd (omega (arith, ints))

  module _ (star : IsStar groups edge) (sum : ℕ → ℕ → ℤ) (is : (u v : ℕ) → u < groups → v < groups → IsRootSum s u v (sum u v)) (no_cycle : HasNoCycle groups s) where
    none : (u : ℕ) → u < groups → sum u u ≡ pos 0
    none u below = elim (is u u below below) [ inl own ↦ own.1 | inr other ↦ absurd (other.0 refl) ]

    joined : (u v w : ℕ) → u < groups → v < groups → w < groups → (sum u v +ℤ sum v w) ≤ℤ sum u w
    joined u v w in_u in_v in_w =
        let at_u = no_cycle u in_u in
        let at_v = no_cycle v in_v in
        elim (is u v in_u in_v) [
          | inl e ↦ rw e.0 (let zero = none v in_v in omega (arith, ints, zero))
          | inr e ↦ elim (is v w in_v in_w) [
            | inl f ↦ rw (← f.0) (let zero = none v in_v in omega (arith, ints, zero))
            | inr f ↦ elim (is u w in_u in_w) [
              | inl k ↦ let back = ap (out_of s) k.0 in omega (arith, ints, e.1, f.1, k.1, back, at_u, at_v)
              | inr k ↦ omega (arith, ints, e.1, f.1, k.1, at_v)
            ]
          ]
        ]

    asked : (u v : ℕ) (w : ℤ) → edge u v ≡ Some w → w ≤ℤ sum u v
    asked u v w e =
        let at = star u v w e in
        elim (is u v at.0 at.1) [
          | inl same ↦ absurd (at.2 same.0)
          | inr apart ↦ elim at.3 [
            | inl zero ↦
                let is_out : out_of s v ≡ w = same_Some (out_of s v) w (sym (h.out v (omega (arith, zero, at.2)) at.1) ∙ subst (λ x. edge x v ≡ Some w) zero e) in
                let start = ap (home_of s) zero in
                omega (arith, ints, apart.1, is_out, start, h.own_home)
            | inr zero ↦
                let is_home : home_of s u ≡ w = same_Some (home_of s u) w (sym (h.home u (omega (arith, zero, at.2)) at.0) ∙ subst (λ x. edge u x ≡ Some w) zero e) in
                let end = ap (out_of s) zero in
                omega (arith, ints, apart.1, is_home, end, h.own_out)
          ]
        ]

    pub root_sums : AreSums groups (asks_of edge) sum
    root_sums = record {
      none = none;
      joined = joined;
      asked = asked;
      least = λ starts meets u v in_u in_v.
          let from_u = home_least starts meets u in_u in
          let to_v = out_least starts meets v in_v in
          elim (is u v in_u in_v) [
            | inl same ↦ rw same.0 (let zero = none v in_v in omega (arith, ints, zero))
            | inr apart ↦ omega (arith, ints, apart.1, from_u, to_v)
          ];
    }

pub spokes_next : (edge : Edges) (group : ℕ) (s : Spokes) (out home : ℤ) → 1 ≤ group → group < length s.out → group < length s.home →
    edge 0 group ≡ Some out → edge group 0 ≡ Some home → IsWeight out → IsWeight home → AreSpokesBelow edge group s →
    AreSpokesBelow edge (group + 1) (record { out = set s.out group out; home = set s.home group home })
spokes_next edge group s out home some in_out in_home there again w v h = record {
  own_out = get_or-set_other s.out group 0 out (pos 0) (λ e. absurd (omega (arith, e))) ∙ h.own_out;
  own_home = get_or-set_other s.home group 0 home (pos 0) (λ e. absurd (omega (arith, e))) ∙ h.own_home;
  out = λ g above below. elim (cases_eq g group) [
    | inl same ↦ rw (same, get_or-set_same s.out group out (pos 0) in_out) there
    | inr other ↦ rw (get_or-set_other s.out group g out (pos 0) other) (h.out g above (omega (arith, other)))
  ];
  home = λ g above below. elim (cases_eq g group) [
    | inl same ↦ rw (same, get_or-set_same s.home group home (pos 0) in_home) again
    | inr other ↦ rw (get_or-set_other s.home group g home (pos 0) other) (h.home g above (omega (arith, other)))
  ];
  out_weight = λ g below. elim (cases_eq g group) [
    | inl same ↦ rw (same, get_or-set_same s.out group out (pos 0) in_out) w
    | inr other ↦ rw (get_or-set_other s.out group g out (pos 0) other) (h.out_weight g (omega (arith, other)))
  ];
  home_weight = λ g below. elim (cases_eq g group) [
    | inl same ↦ rw (same, get_or-set_same s.home group home (pos 0) in_home) v
    | inr other ↦ rw (get_or-set_other s.home group g home (pos 0) other) (h.home_weight g (omega (arith, other)))
  ];
}

pub way_sum : (s : Spokes) (from to : ℕ) (own : Bool) (new : ℤ) → (from == to) ≡ own → MatchBool own (new ≡ pos 0) (new ≡ home_of s from +ℤ out_of s to) → IsRootSum s from to new
way_sum s from to true new test h = let same : from ≡ to = grind (arith, nat_tests) in inl (same, h)
way_sum s from to false new test h = let other : from ≢ to = grind (arith, nat_tests) in inr (other, h)

pub some_if : (o : Option ℤ) (P : ℤ → Type 0) → IsSomeAnd o P → IsSome o
some_if None P h = absurd h
some_if (Some w) P h = refl

-- behind the fixed items all are open
open_past : (n rest k : ℕ) (mark : Mark) → slice_get (replicate n First ++ replicate rest Open) k ≡ Some mark → n ≤ k → mark ≡ Open
open_past n rest k mark at past =
    let marks = replicate n First ++ replicate rest Open in
    let within = slice_get_within marks k mark at in
    let long = length-append (replicate n First) (replicate rest Open) in
    let front = length-replicate n First in
    let back = length-replicate rest Open in
    sym (get_or_from_slice_get marks k mark Open at)
    ∙ get_or-append_right (replicate n First) (replicate rest Open) n k Open front past
    ∙ get_or-replicate rest (k - n) Open Open (omega arith)

origin_star : (cycle u v : ℕ) (w : ℤ) → origin_weight cycle u v ≡ Some w → (u ≡ 0) ⊎ (v ≡ 0)
origin_star cycle u v w h = elim (cases_eq u 0) [
  | inl first ↦ inl first
  | inr other ↦ elim (cases_eq v 0) [
    | inl second ↦ inr second
    | inr neither ↦ absurd (none-some w (sym (no_origin (u == v) (u == 0) (v == 0) (grind (arith, nat_tests)) (grind (arith, nat_tests))) ∙ h))
  ]
]
  where
    no_origin : (same first second : Bool) → first ≡ false → second ≡ false →
        (if same then None else if first then Some (pos 0) else if second then Some (pos 1 -ℤ pos cycle) else None) ≡ None
    no_origin true first second p q = refl
    no_origin false first second p q = rw (p, q) refl

module _ (m : Matrix) (needs : List ℕ) (cycle : ℕ) (root : RootLaw) (sum : PairSumLaw) where
  -- an item that asks for something at the root is one of its fixed pairs
  item_star : (item : ℕ) (mark : Mark) (u v : ℕ) (w : ℤ) → slice_get (root_marks m) item ≡ Some mark → ItemAsks m item mark needs cycle u v w → (u ≡ 0) ⊎ (v ≡ 0)
  item_star item mark u v w marked asks = elim (cases_lt item (fixed_pairs m)) [
    | inl fixed ↦ elim asks [
      | inl pair ↦ lower_zero (((root m).1 item (lower_first u v) pair.pair).1 fixed)
      | inr link ↦ let whole = sum m in let behind = link.behind_pairs in absurd (omega arith)
    ]
    | inr past ↦
        let is = open_past (fixed_pairs m) _ item mark (rw (root m).0 at marked) past in
        absurd (open_asks_nothing m item needs cycle u v w (subst (λ x. ItemAsks m item x needs cycle u v w) is asks))
  ]
    where
      lower_zero : min u v ≡ 0 → (u ≡ 0) ⊎ (v ≡ 0)
      lower_zero least = elim (cases_eq u 0) [ inl first ↦ inl first | inr other ↦ inr (omega (arith, least, other)) ]

  asked_star : (u v : ℕ) (w : ℤ) → IsAsked m (root_marks m) needs cycle u v w → (u ≡ 0) ⊎ (v ≡ 0)
  asked_star u v w (inl a) = item_star a.item a.mark u v w a.marked a.asks
  asked_star u v w (inr origin) = origin_star cycle u v w origin.weight

  pub root_star : AskedLaw → ApartLaw → IsMatrix m → IsStar m.groups (edge_weight m (root_marks m) needs cycle)
  root_star asked_law apart_law matrix u v w e =
      let asked = asked_law m (root_marks m) needs cycle u v w matrix e in (
        asked.0,
        asked.1,
        λ same. none-some w (sym (apart_law m (root_marks m) needs cycle v matrix) ∙ subst (λ x. edge_weight m (root_marks m) needs cycle x v ≡ Some w) same e),
        asked_star u v w asked.2,
      )
