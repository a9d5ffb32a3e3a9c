-- Why each lane of a junction is in the set of all lanes.
use Rattle.std.proofs.Common.{ℕ, ◌≡◌, ◌<◌, ◌≤◌, arith}
use Rattle.std.specs.Prelude.{Some, IsBitSet}
use Rattle.std.proofs.lemmas.Nat.Bits.{bit_at_ones}
use Rattle.sig_base.specs.Fraction.{Fraction}
use Rattle.sig_base.proofs.Bits.{set_of_one}
use Rattle.junction_model.specs.Junction.{JunctionView}
use Rattle.junction_model.specs.Rules.{IsJunction}
use Rattle.plan_model.specs.SignalPlan.{PlanView}
use Rattle.plan_model.specs.Multiplier.{CountsAs, multiplier_at}
use Rattle.plan_model.specs.AllLanes.{all_lanes, AllLanesTargetLaw, AllLanesMultiplierLaw}
use Rattle.plan_model.proofs.LeastLane.{counts_within}

pub chosen : (k : ℕ) → k < 32 → IsBitSet all_lanes.bits k
chosen k few = set_of_one all_lanes.bits k (bit_at_ones 32 k few)

counts : (junction : JunctionView) (p : PlanView) (k : ℕ) (own : Fraction) → IsJunction junction → multiplier_at junction p k ≡ Some own →
    CountsAs junction p all_lanes k own
counts junction p k own rules is =
    let past : 32 ≤ k → ⊥ = λ late. counts_within junction p k own is (omega (arith, rules.lanes.few)) in
    record { chosen = chosen k (omega arith); multiplier = is }

pub all_lanes_target_law : AllLanesTargetLaw
all_lanes_target_law junction p r rules = (
  (
    λ meets. record { fits = meets.fits; reaches = λ k own is. meets.serves k own (counts junction p k own rules is) },
    λ meets. record { fits = meets.fits; serves = λ k own among. meets.reaches k own among.multiplier },
  ),
  (
    λ meets. record { fits = meets.fits; exceeds = λ k own is. meets.serves k own (counts junction p k own rules is) },
    λ beats. record { fits = beats.fits; serves = λ k own among. beats.exceeds k own among.multiplier },
  ),
)

pub all_lanes_multiplier_law : AllLanesMultiplierLaw
all_lanes_multiplier_law junction p m rules = (
  λ is positive. record {
    positive = positive;
    reached = (is.reached.0, is.reached.1, is.reached.2.multiplier, is.reached.3);
    least = λ k own found. is.least k own (counts junction p k own rules found);
  },
  λ is. record {
    reached = (is.reached.0, is.reached.1, counts junction p is.reached.0 is.reached.1 rules is.reached.2, is.reached.3);
    least = λ k own among. is.least k own among.multiplier;
  },
)
