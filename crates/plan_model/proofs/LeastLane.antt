-- The least multiplier of the lanes so far, with one lane more.
use Rattle.std.proofs.Common.{ℕ, ◌≡◌, ◌+◌, ◌<◌, ◌≤◌, ◌⊎◌, length, inl, inr, arith, refl, sym, subst, below_more}
use Rattle.std.proofs.lemmas.Bool.{cases_lt}
use Rattle.std.specs.Prelude.{Option, None, Some, IsNone, IfSome, ◌↔◌}
use Rattle.std.proofs.lemmas.Option.{slice_get_past, slice_get_within}
use Rattle.sig_base.specs.Fraction.{Fraction, IsSameFraction, IsAtMost}
use Rattle.sig_base.specs.Ratio.{fraction_of}
use Rattle.sig_base.specs.declared.lane_set.LaneSet.{LaneSet}
use Rattle.sig_base.specs.declared.ratio.Ratio.{Ratio}
use Rattle.junction_model.specs.Junction.{JunctionView}
use Rattle.junction_model.specs.Rules.{IsJunction}
use Rattle.plan_model.specs.SignalPlan.{PlanView, green_of}
use Rattle.plan_model.specs.Multiplier.{CountsAs, IsLeastMultiplier, multiplier_at}
use Rattle.plan_model.specs.Least.{CountsNot, CountsFor, IsLeastBelow, FoundBelow}
use Rattle.plan_model.specs.Serving.{multiplier_under}
use Rattle.plan_model.specs.MultiplierLaws.{HasFlow}
use Rattle.plan_model.proofs.LaneMultiplier.{lane_group, lane_of, multiplier_of}
use Rattle.sig_base.proofs.Fraction.{at_most_same, at_most_trans}

abbrev IsAtMostEach : JunctionView → PlanView → LaneSet → Fraction → ℕ → Type 0
IsAtMostEach junction p lanes m k = (own : Fraction) → CountsAs junction p lanes k own → IsAtMost m own

at_most_own : (junction : JunctionView) (p : PlanView) (lanes : LaneSet) (m : Fraction) (k : ℕ) →
    CountsFor junction p lanes m k → IsAtMostEach junction p lanes m k
at_most_own junction p lanes m k made own counts =
    let first : multiplier_at junction p k ≡ Some made.0 = made.1.multiplier in
    let second : multiplier_at junction p k ≡ Some own = counts.multiplier in
    let same : made.0 ≡ own = cc in
    at_most_same m own (subst (λ f. IsSameFraction m f) same made.2)

pub found_none : (junction : JunctionView) (p : PlanView) (lanes : LaneSet) (n : ℕ) (found : Option Ratio) → FoundBelow junction p lanes n found →
    CountsNot junction p lanes n → FoundBelow junction p lanes (n + 1) found
found_none junction p lanes n None below not = below_more (CountsNot junction p lanes) n below not
found_none junction p lanes n (Some r) below not = record {
  reached = below.reached;
  least = λ k own h. below_more (IsAtMostEach junction p lanes (fraction_of r)) n (λ k h own. below.least k own h)
      (λ own counts. absurd (not own counts)) k h own;
}

pub found_first : (junction : JunctionView) (p : PlanView) (lanes : LaneSet) (n : ℕ) (r : Ratio) → ((k : ℕ) → k < n → CountsNot junction p lanes k) →
    CountsFor junction p lanes (fraction_of r) n → IsLeastBelow junction p lanes (n + 1) (fraction_of r)
found_first junction p lanes n r none made = record {
  reached = (n, made);
  least = λ k own h. below_more (IsAtMostEach junction p lanes (fraction_of r)) n (λ k h own counts. absurd (none k h own counts))
      (at_most_own junction p lanes (fraction_of r) n made) k h own;
}

pub found_lesser : (junction : JunctionView) (p : PlanView) (lanes : LaneSet) (n : ℕ) (a b r : Ratio) →
    IsLeastBelow junction p lanes n (fraction_of a) → CountsFor junction p lanes (fraction_of b) n →
    IsAtMost (fraction_of r) (fraction_of a) → IsAtMost (fraction_of r) (fraction_of b) →
    (fraction_of r ≡ fraction_of a) ⊎ (fraction_of r ≡ fraction_of b) → IsLeastBelow junction p lanes (n + 1) (fraction_of r)
found_lesser junction p lanes n a b r below made first second either = record {
  reached = elim either [
    | inl w ↦ (below.reached.0, subst (λ m. CountsFor junction p lanes m below.reached.0) (sym w) below.reached.1)
    | inr w ↦ (n, subst (λ m. CountsFor junction p lanes m n) (sym w) made)
  ];
  least = λ k own h. below_more (IsAtMostEach junction p lanes (fraction_of r)) n
      (λ k h own counts. at_most_trans (fraction_of r) (fraction_of a) own a.lowest.positive first (below.least k own h counts))
      (λ own counts. at_most_trans (fraction_of r) (fraction_of b) own b.lowest.positive second
      (at_most_own junction p lanes (fraction_of b) n made own counts)) k h own;
}

pub counts_within : (junction : JunctionView) (p : PlanView) (k : ℕ) (own : Fraction) → multiplier_at junction p k ≡ Some own → length junction.lanes ≤ k → ⊥
counts_within junction p k own is past =
    let none : multiplier_at junction p k ≡ None = rw (slice_get_past junction.lanes k past) refl in cc

-- a lane with an arrival counts
pub flow_counts : (junction : JunctionView) (p : PlanView) (lanes : LaneSet) → IsJunction junction → (flow : HasFlow junction lanes) →
    (own : Fraction) × CountsAs junction p lanes flow.number own
flow_counts junction p lanes rules flow =
    let group = lane_group junction flow.number flow.lane rules flow.there in (
      multiplier_under flow.lane group.0.times p.cycle (green_of p flow.lane.group),
      record {
        chosen = flow.chosen;
        multiplier = multiplier_of junction p flow.number flow.lane group.0 flow.there group.1 flow.arrives;
      },
    )

-- the lane of a least multiplier has an arrival
least_flow : (junction : JunctionView) (p : PlanView) (lanes : LaneSet) (m : Fraction) → IsLeastMultiplier junction p lanes m → HasFlow junction lanes
least_flow junction p lanes m least =
    let counts = least.reached.2 in
    let of = lane_of junction p least.reached.0 least.reached.1 counts.multiplier in
    record { number = least.reached.0; lane = of.0; there = of.2.lane_there; chosen = counts.chosen; arrives = of.2.arrives }

-- what is found over all lanes: none exactly where the set has no flow, and else its least multiplier
pub found_all : (junction : JunctionView) (p : PlanView) (lanes : LaneSet) (n : ℕ) (found : Option Ratio) → IsJunction junction → length junction.lanes ≤ n →
    FoundBelow junction p lanes n found → (IsNone found ↔ ¬ HasFlow junction lanes) × IfSome found (λ r. IsLeastMultiplier junction p lanes (fraction_of r))
found_all junction p lanes n None rules all below =
    let still : ¬ HasFlow junction lanes = λ flow.
    let own = flow_counts junction p lanes rules flow in
    let inside = slice_get_within junction.lanes flow.number flow.lane flow.there in
    below flow.number (omega arith) own.0 own.1 in
    ((λ is. still, λ none. refl), tt)
found_all junction p lanes n (Some r) rules all below =
    let least : IsLeastMultiplier junction p lanes (fraction_of r) = record {
      reached = (below.reached.0, below.reached.1.0, below.reached.1.1, below.reached.1.2);
      least = λ k own counts. elim (cases_lt k n) [
        | inl w ↦ below.least k own w counts
        | inr w ↦ absurd (counts_within junction p k own counts.multiplier (omega arith))
      ];
    } in
    ((λ is. absurd (cc), λ none. absurd (none (least_flow junction p lanes (fraction_of r) least))), least)
