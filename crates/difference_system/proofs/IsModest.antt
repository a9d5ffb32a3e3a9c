-- The sums of a system stay within its cycle; those from group 0 are its least starts.
use Rattle.std.proofs.Common.{ℕ, List, ◌≡◌, ◌+◌, ◌-◌, ◌<◌, ◌≤◌, inl, inr, refl, sym, ◌∙◌, arith, drop, replicate, ℤ, pos, ◌-ℤ◌, ◌≤ℤ◌, slice_index}
use Rattle.std.proofs.lemmas.Bool.{cases_eq, cases_lt}
use Rattle.std.proofs.lemmas.Int.{ints}
use Rattle.std.proofs.lemmas.List.{ext_get_or, length-drop, length-replicate, get_or-drop, get_or-replicate}
use Rattle.std.proofs.lemmas.List.Elements.{All-from_get_or}
use Rattle.sig_base.proofs.Option.{some_and}
use Rattle.constraint_cycles.specs.Edge.{Edges, longest_cycle}
use Rattle.constraint_cycles.specs.Starts.{MeetsEdges}
use Rattle.difference_system.specs.Edge.{IsSystem}
use Rattle.difference_system.specs.Solution.{AreLeastStarts, AreStartsWithin}
use Rattle.difference_system.specs.Sums.{asks_of, AreSums, AreModest, IsModest, IsSmall, IsStart, AreRowStarts}

pub modest_small : (w : ℤ) → IsModest w → IsSmall w
modest_small w h = record { least = omega (arith, ints, h.least); greatest = omega (arith, ints, h.greatest) }

module _ (groups cycle : ℕ) (edge : Edges) (system : IsSystem groups cycle edge) (sum : ℕ → ℕ → ℤ) (h : AreSums groups (asks_of edge) sum) where
  out : (g : ℕ) → g < groups → pos 0 ≤ℤ sum 0 g
  out g below = elim (cases_eq g 0) [
    | inl zero ↦ rw zero (let own = h.none 0 (omega (arith, system.some)) in omega (arith, ints, own))
    | inr other ↦
        let spoke = some_and (edge 0 g) (λ w. pos 0 ≤ℤ w) (system.outward g (omega (arith, other)) below) in
        omega (arith, ints, spoke.2, h.asked 0 g spoke.0 spoke.1)
  ]

  home : (g : ℕ) → g < groups → (pos 1 -ℤ pos cycle) ≤ℤ sum g 0
  home g below = elim (cases_eq g 0) [
    | inl zero ↦ rw zero (let own = h.none 0 (omega (arith, system.some)) in omega (arith, ints, own, system.lasts))
    | inr other ↦
        let spoke = some_and (edge g 0) (λ w. (pos 1 -ℤ pos cycle) ≤ℤ w) (system.homeward g (omega (arith, other)) below) in
        omega (arith, ints, spoke.2, h.asked g 0 spoke.0 spoke.1)
  ]

  pub modest : cycle ≤ longest_cycle → AreModest groups sum
  modest longest u v in_u in_v =
      let in_0 : 0 < groups = omega (arith, system.some) in
      let own = h.none 0 in_0 in
      let round = h.joined 0 v 0 in_0 in_v in_0 in
      let by_u = h.joined 0 u v in_0 in_u in_v in
      let by_0 = h.joined u 0 v in_u in_0 in_v in
      let out_u = out u in_u in
      let out_v = out v in_v in
      let home_u = home u in_u in
      let home_v = home v in_v in
      record { least = omega (arith, ints, longest); greatest = omega (arith, ints, longest) }

  before_end : (g : ℕ) → g < groups → sum 0 g ≤ℤ (pos cycle -ℤ pos 1)
  before_end g below =
      let in_0 : 0 < groups = omega (arith, system.some) in
      let own = h.none 0 in_0 in
      let round = h.joined 0 g 0 in_0 below in_0 in
      let back = home g below in
      omega (arith, ints)

  pub row_start : cycle ≤ longest_cycle → (g : ℕ) → g < groups → IsStart (sum 0 g)
  row_start longest g below =
      let end = before_end g below in
      record { least = out g below; greatest = omega (arith, ints) }

  module _ (starts : List ℕ) (row : AreRowStarts groups (sum 0) starts) where
    pub row_least : AreLeastStarts (MeetsEdges edge) starts
    row_least =
        let some : 0 < groups = omega (arith, system.some) in
        record {
          solution = record {
            first = let own = h.none 0 some in let is = row.each 0 some in omega (arith, ints);
            meets = λ u v w e.
                let inside = system.within u v w e in
                let asked = h.asked u v w e in
                let by = h.joined 0 u v some inside.0 inside.1 in
                let at_u = row.each u inside.0 in
                let at_v = row.each v inside.1 in
                omega (arith, ints);
          };
          least = λ other meets g. elim (cases_lt g groups) [
            | inl below ↦
                let is = row.each g below in
                let most = h.least other meets.meets 0 g some below in
                let zero = meets.first in
                omega (arith, ints)
            | inr past ↦ let is = row.unused g past in omega arith
          ];
        }

    start_below : (g : ℕ) → slice_index starts g < cycle
    start_below g = elim (cases_lt g groups) [
      | inl below ↦
          let is = row.each g below in
          let end = before_end g below in
          omega (arith, ints)
      | inr past ↦ let is = row.unused g past in let lasts = system.lasts in omega arith
    ]

    pub row_within : AreStartsWithin groups cycle starts
    row_within = record {
      each = row.full;
      below = All-from_get_or (λ start. start < cycle) starts 0 (λ g inside. start_below g);
      unused =
          let full = row.full in
          let few = system.few in
          let size = length-drop groups starts in
          let zeros = length-replicate {A = ℕ} (16 - groups) 0 in
          ext_get_or 0 (drop groups starts) (replicate (16 - groups) 0) (omega arith)
          (λ k inside. get_or-drop groups starts k 0 ∙ row.unused (groups + k) (omega arith) ∙ sym (get_or-replicate (16 - groups) k 0 0 (omega arith)));
    }
