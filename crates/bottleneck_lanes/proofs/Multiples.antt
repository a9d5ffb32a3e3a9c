-- What it is to beat a multiple over a set, said by the least multiplier of the set.
use Rattle.std.proofs.Common.{ℕ, ◌<◌, ◌≤◌, inl, inr, arith}
use Rattle.std.proofs.lemmas.Bool.{cases_eq}
use Rattle.sig_base.specs.Fraction.{Fraction, IsAtMost}
use Rattle.sig_base.specs.Ratio.{fraction_of}
use Rattle.sig_base.specs.declared.lane_set.LaneSet.{LaneSet}
use Rattle.sig_base.proofs.Fraction.{below_at_most}
use Rattle.sig_base.proofs.Without.{was_in, still_in, other_than}
use Rattle.junction_model.specs.Junction.{JunctionView}
use Rattle.plan_model.specs.Multiplier.{CountsAs}
use Rattle.plan_model.specs.MultiplierLaws.{HasFlow}
use Rattle.plan_model.specs.SignalPlan.{PlanView}
use Rattle.plan_model.proofs.LaneMultiplier.{lane_of, lane_denominator_law}
use Rattle.bottleneck_lanes.specs.Laws.{GreaterLaw, FreeLaw, LastLaneLaw}
use Rattle.bottleneck_lanes.proofs.ArrivingLanes.{arrival, arrival_within}

-- a lane that counts is one on which something arrives
flow_of : (junction : JunctionView) (p : PlanView) (lanes : LaneSet) (k : ℕ) (own : Fraction) → CountsAs junction p lanes k own → HasFlow junction lanes
flow_of junction p lanes k own counts =
    let of = lane_of junction p k own counts.multiplier in
    record { number = k; lane = of.0; there = of.2.lane_there; chosen = counts.chosen; arrives = of.2.arrives }

pub greater_law : GreaterLaw
greater_law junction multiple r lanes p rules fits least = (
  λ beats.
      let own = least.reached.1 in
      let back : IsAtMost own (fraction_of r) = omega (arith, least.reached.3) in
      below_at_most (fraction_of multiple) own (fraction_of r) r.lowest.positive (beats.serves least.reached.0 own least.reached.2) back,
  λ greater. record {
    fits = fits;
    serves = λ k own counts.
        let some : 1 ≤ own.den = lane_denominator_law junction p k own rules (omega (arith, rules.cycles.some, fits.cycle.least)) counts.multiplier in
        below_at_most (fraction_of multiple) (fraction_of r) own some greater (least.least k own counts);
  },
)

pub free_law : FreeLaw
free_law junction multiple lanes p fits none = record { fits = fits; serves = λ k own counts. absurd (none (flow_of junction p lanes k own counts)) }

pub last_lane_law : LastLaneLaw
last_lane_law junction lanes k rules arriving is =
    let small : k < 32 = arrival_within junction k rules (arriving k is) in (
      λ none j own. elim (cases_eq j k) [
        | inl same ↦ same
        | inr other ↦ (
            let has = arrival junction j (arriving j own) in
            let few : j < 32 = arrival_within junction j rules (arriving j own) in
            absurd (none (record { number = j; lane = has.0; there = has.1; chosen = still_in lanes k j small few own other; arrives = has.2 })))
      ],
      λ alone flow. other_than lanes k flow.number small flow.chosen (alone flow.number (was_in lanes k flow.number flow.chosen)),
    )
