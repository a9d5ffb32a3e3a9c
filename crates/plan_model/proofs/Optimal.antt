-- Why no plan beats a plan's multiplier exactly where it is the greatest.
use Rattle.std.proofs.Common.{◌*◌, ◌≤◌, inl, inr, arith}
use Rattle.std.proofs.lemmas.Bool.{cases_lt}
use Rattle.sig_base.specs.Fraction.{Fraction, IsAtMost, IsBelow}
use Rattle.sig_base.specs.Ratio.{fraction_of}
use Rattle.junction_model.specs.Junction.{JunctionView}
use Rattle.junction_model.specs.Rules.{IsJunction}
use Rattle.plan_model.specs.SignalPlan.{PlanView}
use Rattle.plan_model.specs.Fits.{Fits}
use Rattle.plan_model.specs.Multiplier.{Meets, Beats}
use Rattle.plan_model.specs.Claims.{IsPlanMultiplier, IsCapacityOptimal, HasGreatestMultiplier, OptimalLaw}
use Rattle.sig_base.proofs.Fraction.{at_most_trans, below_at_most}
use Rattle.plan_model.proofs.LaneMultiplier.{lane_denominator_law}
use Rattle.plan_model.proofs.MultiplierLaws.{plan_multiplier_law}

module _ (junction : JunctionView) (q : PlanView) (m n : Fraction) (rules : IsJunction junction) (fits : Fits junction q)
    (is : IsPlanMultiplier junction q n) where
  some_cycle : 1 ≤ q.cycle
  some_cycle = omega (arith, rules.cycles.some, fits.cycle.least)

  meets_up_to : IsAtMost m n → Meets junction q m
  meets_up_to least = record { fits = fits; reaches = λ k own found. at_most_trans m n own is.positive least (is.least k own found) }

  met_up_to : Meets junction q m → IsAtMost m n
  met_up_to meets =
      let own = is.reached.1 in
      let found = is.reached.2 in
      at_most_trans m own n (lane_denominator_law junction q is.reached.0 own rules some_cycle found) (meets.reaches is.reached.0 own found)
      (omega (arith, is.reached.3))

  beats_below : IsBelow m n → Beats junction q m
  beats_below less = record {
    fits = fits;
    exceeds = λ k own found. below_at_most m n own (lane_denominator_law junction q k own rules some_cycle found) less (is.least k own found);
  }

  beaten_below : Beats junction q m → IsBelow m n
  beaten_below beats =
      let own = is.reached.1 in
      below_at_most m own n is.positive (beats.exceeds is.reached.0 own is.reached.2) (omega (arith, is.reached.3))

  -- either way round, where q fits
  greatest_of_unbeaten : (Beats junction q m → ⊥) → IsAtMost n m
  greatest_of_unbeaten unbeaten = elim (cases_lt (m.num * n.den) (n.num * m.den)) [ inl less ↦ absurd (unbeaten (beats_below less)) | inr not ↦ not ]

  less_of_unmet : (Meets junction q m → ⊥) → IsBelow n m
  less_of_unmet unmet = elim (cases_lt (n.num * m.den) (m.num * n.den)) [ inl less ↦ less | inr not ↦ absurd (unmet (meets_up_to not)) ]

-- of two multipliers of a plan, the one is at most the other
at_most_own : (junction : JunctionView) (p : PlanView) (m n : Fraction) → IsJunction junction → 1 ≤ p.cycle → IsPlanMultiplier junction p m →
    IsPlanMultiplier junction p n → IsAtMost m n
at_most_own junction p m n rules some of_m of_n =
    let own = of_n.reached.1 in
    let found = of_n.reached.2 in
    at_most_trans m own n (lane_denominator_law junction p of_n.reached.0 own rules some found) (of_m.least of_n.reached.0 own found)
    (omega (arith, of_n.reached.3))

multiplier_of_fitting : (junction : JunctionView) (q : PlanView) → IsJunction junction → Fits junction q → (n : Fraction) × IsPlanMultiplier junction q n
multiplier_of_fitting junction q rules fits =
    let least = plan_multiplier_law junction q rules (omega (arith, rules.cycles.some, fits.cycle.least)) in (fraction_of least.0, least.1)

greatest_of_optimal : (junction : JunctionView) (least : Fraction) (p : PlanView) → IsJunction junction → 1 ≤ p.cycle → IsCapacityOptimal junction least p →
    HasGreatestMultiplier junction least p
greatest_of_optimal junction least p rules some optimal =
    let own = optimal.multiplier in record {
      meets = optimal.meets;
      greatest = λ q m n fits of_p of_q.
          at_most_trans n own m optimal.is.positive (greatest_of_unbeaten junction q own n rules fits of_q (optimal.greatest q))
          (at_most_own junction p own m rules some optimal.is of_p);
      shortest = λ q m n fits shorter of_p of_q.
          below_at_most n own m of_p.positive (less_of_unmet junction q own n rules fits of_q (optimal.shortest q shorter))
          (at_most_own junction p own m rules some optimal.is of_p);
    }

optimal_of_greatest : (junction : JunctionView) (least : Fraction) (p : PlanView) → IsJunction junction → 1 ≤ p.cycle → HasGreatestMultiplier junction least p →
    IsCapacityOptimal junction least p
optimal_of_greatest junction least p rules some greatest =
    let of_p = plan_multiplier_law junction p rules some in
    let m = fraction_of of_p.0 in record {
      meets = greatest.meets;
      multiplier = m;
      is = of_p.1;
      greatest = λ q beats.
          let own = multiplier_of_fitting junction q rules beats.fits in
          let more = beaten_below junction q m own.0 rules beats.fits own.1 beats in
          absurd (omega (arith, more, greatest.greatest q m own.0 beats.fits of_p.1 own.1));
      shortest = λ q shorter meets.
          let own = multiplier_of_fitting junction q rules meets.fits in
          let least = met_up_to junction q m own.0 rules meets.fits own.1 meets in
          absurd (omega (arith, least, greatest.shortest q m own.0 meets.fits shorter of_p.1 own.1));
    }

pub optimal_law : OptimalLaw
optimal_law junction least p rules some = (greatest_of_optimal junction least p rules some, optimal_of_greatest junction least p rules some)
