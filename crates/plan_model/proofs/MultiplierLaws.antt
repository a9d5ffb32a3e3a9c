-- Why each set of lanes with flow has one least multiplier, and each plan one.
use Rattle.std.proofs.Common.{ℕ, zero, suc, ◌≡◌, ◌+◌, ◌*◌, ◌^◌, ◌≤◌, ◌⊎◌, length, inl, inr, arith, refl, subst, add-one}
use Rattle.std.proofs.lemmas.Bool.{cases_lt, cases_eq}
use Rattle.std.proofs.lemmas.Option.{slice_get-get_or}
use Rattle.std.specs.Prelude.{Option, None, Some, IsNone, IfSome, ◌↔◌}
use Rattle.std.specs.Int.Bits.{bit_and}
use Rattle.sig_base.specs.Fraction.{Fraction, IsAtMost, IsSameFraction}
use Rattle.sig_base.specs.Ratio.{fraction_of}
use Rattle.sig_base.specs.declared.lane_set.LaneSet.{LaneSet}
use Rattle.sig_base.specs.declared.ratio.Ratio.{Ratio}
use Rattle.sig_base.proofs.Lowest.{lowest_fraction}
use Rattle.junction_model.specs.Junction.{JunctionView}
use Rattle.junction_model.specs.Rules.{IsJunction}
use Rattle.plan_model.specs.SignalPlan.{PlanView}
use Rattle.plan_model.specs.Multiplier.{IsLeastMultiplier, multiplier_at}
use Rattle.plan_model.specs.Least.{CountsNot, CountsFor, FoundBelow}
use Rattle.plan_model.specs.AllLanes.{all_lanes}
use Rattle.plan_model.specs.MultiplierLaws.{SomeMultiplierLaw, OneMultiplierLaw, PlanMultiplierLaw, AllLanesFlowLaw}
use Rattle.sig_base.proofs.Fraction.{at_most_trans}
use Rattle.plan_model.proofs.LaneMultiplier.{lane_denominator_law}
use Rattle.plan_model.proofs.LeastLane.{found_none, found_first, found_lesser, found_all}
use Rattle.plan_model.proofs.AllLanes.{chosen, all_lanes_multiplier_law}

lowest_terms : (f : Fraction) → 1 ≤ f.den → (r : Ratio) × IsSameFraction (fraction_of r) f
lowest_terms f some = let (num, den, lowest, same) = lowest_fraction f.num f.den some in (record { num = num; den = den; lowest = lowest }, same)

lesser : (a b : Ratio) → (r : Ratio) × IsAtMost (fraction_of r) (fraction_of a) × IsAtMost (fraction_of r) (fraction_of b)
    × ((fraction_of r ≡ fraction_of a) ⊎ (fraction_of r ≡ fraction_of b))
lesser a b = elim (cases_lt (b.num * a.den) (a.num * b.den)) [
  | inl less ↦ (b, omega arith, omega arith, inr refl)
  | inr not ↦ (a, omega arith, not, inl refl)
]

module _ (junction : JunctionView) (p : PlanView) (lanes : LaneSet) (rules : IsJunction junction) (some : 1 ≤ p.cycle) where
  counts_or_not : (k : ℕ) (o : Option Fraction) → multiplier_at junction p k ≡ o → CountsNot junction p lanes k ⊎ ((r : Ratio) × CountsFor junction p lanes (fraction_of r) k)
  counts_or_not k None none = inl (λ own counts. let found = counts.multiplier in cc)
  counts_or_not k (Some own) is = elim (cases_eq (bit_and lanes.bits (2 ^ k)) 0) [
    | inl out ↦ inl (λ other counts. counts.chosen out)
    | inr chosen ↦
        let lowest = lowest_terms own (lane_denominator_law junction p k own rules some is) in
        inr (lowest.0, (own, record { chosen = chosen; multiplier = is }, lowest.1))
  ]

  one_more : (n : ℕ) (r : Ratio) (found : Option Ratio) → FoundBelow junction p lanes n found → CountsFor junction p lanes (fraction_of r) n →
      (more : Option Ratio) × FoundBelow junction p lanes (n + 1) more
  one_more n r None none made = (Some r, found_first junction p lanes n r none made)
  one_more n r (Some a) below made =
      let least = lesser a r in
      (Some least.0, found_lesser junction p lanes n a r least.0 below made least.1 least.2 least.3)

  found_below : (n : ℕ) → (found : Option Ratio) × FoundBelow junction p lanes n found
  found_below zero = (None, λ k h. absurd (omega (arith, h)))
  found_below (suc n) =
      let before = found_below n in
      subst (λ k. (found : Option Ratio) × FoundBelow junction p lanes k found) (add-one n)
      (elim (counts_or_not n (multiplier_at junction p n) refl) [
        | inl not ↦ (before.0, found_none junction p lanes n before.0 before.1 not)
        | inr made ↦ one_more n made.0 before.0 before.1 made.1
      ])

has_one : {Q : Type 0} {P : Ratio → Type 0} (found : Option Ratio) → (IsNone found ↔ ¬ Q) × IfSome found P → Q → (r : Ratio) × P r
has_one None h q = absurd (h.0.0 refl q)
has_one (Some r) h q = (r, h.1)

pub some_multiplier_law : SomeMultiplierLaw
some_multiplier_law junction p lanes rules some flow =
    let all = found_below junction p lanes rules some (length junction.lanes) in
    has_one all.0 (found_all junction p lanes (length junction.lanes) all.0 rules (omega arith) all.1) flow

at_most_reached : (junction : JunctionView) (p : PlanView) (lanes : LaneSet) (m n : Fraction) → IsJunction junction → 1 ≤ p.cycle →
    IsLeastMultiplier junction p lanes m → IsLeastMultiplier junction p lanes n → IsAtMost n m
at_most_reached junction p lanes m n rules some of_m of_n =
    let own = of_m.reached.1 in
    let counts = of_m.reached.2 in
    at_most_trans n own m (lane_denominator_law junction p of_m.reached.0 own rules some counts.multiplier)
    (of_n.least of_m.reached.0 own counts) (omega (arith, of_m.reached.3))

pub one_multiplier_law : OneMultiplierLaw
one_multiplier_law junction p lanes m n rules some positive_m positive_n of_m of_n =
    omega (arith, at_most_reached junction p lanes m n rules some of_m of_n, at_most_reached junction p lanes n m rules some of_n of_m)

pub all_lanes_flow_law : AllLanesFlowLaw
all_lanes_flow_law junction rules =
    let (k, lane, inside, at, arrives) = rules.lanes.some_arrival in
    record { number = k; lane = lane; there = rw at at (slice_get-get_or junction.lanes k lane inside); chosen = chosen k (omega (arith, rules.lanes.few)); arrives = arrives }

pub plan_multiplier_law : PlanMultiplierLaw
plan_multiplier_law junction p rules some =
    let least = some_multiplier_law junction p all_lanes rules some (all_lanes_flow_law junction rules) in
    (least.0, (all_lanes_multiplier_law junction p (fraction_of least.0) rules).0 least.1 least.0.lowest.positive)
