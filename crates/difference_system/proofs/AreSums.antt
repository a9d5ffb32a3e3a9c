-- The greatest sums with two more edges, and those of edges that ask for as much.
use Rattle.std.proofs.Common.{ℕ, List, ◌≡◌, ◌<◌, inl, inr, refl, arith, ℤ, pos, ◌+ℤ◌, ◌-ℤ◌, ◌≤ℤ◌, slice_index}
use Rattle.std.proofs.lemmas.Int.{ints}
use Rattle.difference_system.specs.Sums.{Asks, MeetsAll, AreSums, AreEdgesAmong, AreWithEdges, MakesCycle, with_edges}
use Rattle.difference_system.specs.declared.sums.matrix.TwoEdges.{TwoEdges}

module _ (groups : ℕ) (asks : Asks) (old : ℕ → ℕ → ℤ) (h : AreSums groups asks old) (e : TwoEdges) (among : AreEdgesAmong groups e) where
  -- starts that meet all that is asked with two more edges leave so much
  record AreMet (starts : List ℕ) : Type 0 where
    before : MeetsAll asks starts
    forth : e.forth ≤ℤ (pos (slice_index starts e.to) -ℤ pos (slice_index starts e.from))
    back : e.back ≤ℤ (pos (slice_index starts e.from) -ℤ pos (slice_index starts e.to))

  are_met : (starts : List ℕ) → MeetsAll (with_edges asks e) starts → AreMet starts
  are_met starts meets = record {
    before = λ u v w asked. meets u v w (inl asked);
    forth = meets e.from e.to e.forth (inr (inl (refl, refl, refl)));
    back = meets e.to e.from e.back (inr (inr (refl, refl, refl)));
  }

  -- a positive cycle leaves no starts
  pub cycle_closes : MakesCycle old e → (starts : List ℕ) → ¬ MeetsAll (with_edges asks e) starts
  cycle_closes positive starts meets =
      let met = are_met starts meets in
      let there = met.forth in
      let again = met.back in
      let up = h.least starts met.before e.from e.to among.from among.to in
      let down = h.least starts met.before e.to e.from among.to among.from in
      let more = positive.2 in
      elim positive.1.one [
        | inl both ↦ absurd (omega (arith, ints, both, more, there, again))
        | inr one ↦ elim one [
          | inl forth ↦ absurd (omega (arith, ints, forth, more, there, down))
          | inr back ↦ absurd (omega (arith, ints, back, more, again, up))
        ]
      ]

  module _ (new : ℕ → ℕ → ℤ) (with_them : AreWithEdges groups old e new) where
    both : (e.forth +ℤ e.back) ≤ℤ pos 0
    both = omega (arith, ints, with_them.no_cycle.1.first, with_them.no_cycle.2)

    forth : (e.forth +ℤ old e.to e.from) ≤ℤ pos 0
    forth = omega (arith, ints, with_them.no_cycle.1.second, with_them.no_cycle.2)

    back : (e.back +ℤ old e.from e.to) ≤ℤ pos 0
    back = omega (arith, ints, with_them.no_cycle.1.third, with_them.no_cycle.2)

    none : (x : ℕ) → x < groups → new x x ≡ pos 0
    none x in_x =
        let own = with_them.each x x in_x in_x in
        let zero = h.none x in_x in
        let down = h.joined e.to x e.from among.to in_x among.from in
        let up = h.joined e.from x e.to among.from in_x among.to in
        elim own.one [
          | inl is ↦ omega (arith, ints, zero, is)
          | inr way ↦ elim way [
            | inl is ↦ omega (arith, ints, zero, is, own.first, down, forth)
            | inr is ↦ omega (arith, ints, zero, is, own.first, up, back)
          ]
        ]

    joined : (x y z : ℕ) → x < groups → y < groups → z < groups → (new x y +ℤ new y z) ≤ℤ new x z
    joined x y z in_x in_y in_z =
        let xy = with_them.each x y in_x in_y in
        let yz = with_them.each y z in_y in_z in
        let xz = with_them.each x z in_x in_z in
        elim xy.one [
          | inl p ↦ elim yz.one [
            | inl q ↦ let plain = h.joined x y z in_x in_y in_z in omega (arith, ints, p, q, plain, xz.first)
            | inr way ↦ elim way [
              | inl q ↦ let on = h.joined x y e.from in_x in_y among.from in omega (arith, ints, p, q, on, xz.second)
              | inr q ↦ let on = h.joined x y e.to in_x in_y among.to in omega (arith, ints, p, q, on, xz.third)
            ]
          ]
          | inr first ↦ elim first [
            | inl p ↦ elim yz.one [
              | inl q ↦ let on = h.joined e.to y z among.to in_y in_z in omega (arith, ints, p, q, on, xz.second)
              | inr way ↦ elim way [
                | inl q ↦ let down = h.joined e.to y e.from among.to in_y among.from in omega (arith, ints, p, q, down, forth, xz.second)
                | inr q ↦
                    let round = h.joined e.to y e.to among.to in_y among.to in
                    let zero = h.none e.to among.to in
                    let plain = h.joined x e.from z in_x among.from in_z in
                    omega (arith, ints, p, q, round, zero, plain, both, xz.first)
              ]
            ]
            | inr p ↦ elim yz.one [
              | inl q ↦ let on = h.joined e.from y z among.from in_y in_z in omega (arith, ints, p, q, on, xz.third)
              | inr way ↦ elim way [
                | inl q ↦
                    let round = h.joined e.from y e.from among.from in_y among.from in
                    let zero = h.none e.from among.from in
                    let plain = h.joined x e.to z in_x among.to in_z in
                    omega (arith, ints, p, q, round, zero, plain, both, xz.first)
                | inr q ↦ let up = h.joined e.from y e.to among.from in_y among.to in omega (arith, ints, p, q, up, back, xz.third)
              ]
            ]
          ]
        ]

    forth_asked : (x y : ℕ) (w : ℤ) → x ≡ e.from → y ≡ e.to → w ≡ e.forth → w ≤ℤ new x y
    forth_asked x y w at_x at_y is =
        let own = (with_them.each e.from e.to among.from among.to).second in
        let from = h.none e.from among.from in
        let to = h.none e.to among.to in
        rw (at_x, at_y, is) (omega (arith, ints, own, from, to))

    back_asked : (x y : ℕ) (w : ℤ) → x ≡ e.to → y ≡ e.from → w ≡ e.back → w ≤ℤ new x y
    back_asked x y w at_x at_y is =
        let own = (with_them.each e.to e.from among.to among.from).third in
        let from = h.none e.from among.from in
        let to = h.none e.to among.to in
        rw (at_x, at_y, is) (omega (arith, ints, own, from, to))

    pub sums_with_edges : ((x y : ℕ) (w : ℤ) → asks x y w → (x < groups) × (y < groups)) → AreSums groups (with_edges asks e) new
    sums_with_edges within = record {
      none = none;
      joined = joined;
      asked = λ x y w either. elim either [
        | inl asked ↦ let inside = within x y w asked in omega (arith, ints, h.asked x y w asked, (with_them.each x y inside.0 inside.1).first)
        | inr added ↦ elim added [
          | inl is ↦ forth_asked x y w is.0 is.1 is.2
          | inr is ↦ back_asked x y w is.0 is.1 is.2
        ]
      ];
      least = λ starts meets x y in_x in_y.
          let met = are_met starts meets in
          let there = met.forth in
          let again = met.back in
          elim (with_them.each x y in_x in_y).one [
            | inl is ↦ omega (arith, ints, is, h.least starts met.before x y in_x in_y)
            | inr way ↦ elim way [
              | inl is ↦ omega (arith, ints, is, there, h.least starts met.before x e.from in_x among.from, h.least starts met.before e.to y among.to in_y)
              | inr is ↦ omega (arith, ints, is, again, h.least starts met.before x e.to in_x among.to, h.least starts met.before e.from y among.from in_y)
            ]
          ];
    }

-- each thing asked is asked by the other too, or more
abbrev pub AsksNoMore : Asks → Asks → Type 0
AsksNoMore asks more = (u v : ℕ) (w : ℤ) → asks u v w → (x : ℤ) × more u v x × (w ≤ℤ x)

pub meets_less : (asks more : Asks) → AsksNoMore asks more → (starts : List ℕ) → MeetsAll more starts → MeetsAll asks starts
meets_less asks more no_more starts meets u v w asked =
    let found = no_more u v w asked in
    let much = meets u v found.0 found.1 in
    let less = found.2 in
    omega (arith, ints)

-- the sums of what asks for as much
pub sums_same : (groups : ℕ) (asks other : Asks) (sum : ℕ → ℕ → ℤ) → AsksNoMore asks other → AsksNoMore other asks → AreSums groups asks sum → AreSums groups other sum
sums_same groups asks other sum less more h = record {
  none = h.none;
  joined = h.joined;
  asked = λ u v w asked.
      let found = more u v w asked in
      omega (arith, ints, found.2, h.asked u v found.0 found.1);
  least = λ starts meets. h.least starts (meets_less asks other less starts meets);
}
