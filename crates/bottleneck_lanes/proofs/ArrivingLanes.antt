-- The lanes on which something arrives, found one after another.
use Rattle.std.proofs.Common.{ℕ, ◌≡◌, ◌+◌, ◌<◌, ◌≤◌, inl, inr, sym, subst, arith}
use Rattle.std.specs.Prelude.{Bool, true, false, IsTrue, Some, IsSomeAnd, slice_get, length}
use Rattle.std.specs.Int.{bit_at}
use Rattle.std.proofs.lemmas.Bool.{cases_lt}
use Rattle.std.proofs.lemmas.Nat.Bits.{bit_at_above}
use Rattle.std.proofs.lemmas.Option.{slice_get_within}
use Rattle.sig_base.specs.LaneSet.{IsIn, without}
use Rattle.sig_base.specs.declared.lane_set.LaneSet.{LaneSet}
use Rattle.sig_base.proofs.Bits.{one_of_set}
use Rattle.sig_base.proofs.Option.{some_and}
use Rattle.sig_base.proofs.Without.{was_in, still_in, other_than}
use Rattle.flow_model.specs.declared.lane.Lane.{Lane}
use Rattle.junction_model.specs.Junction.{JunctionView}
use Rattle.junction_model.specs.Rules.{IsJunction}
use Rattle.plan_model.specs.AllLanes.{all_lanes}
use Rattle.plan_model.proofs.AllLanes.{chosen}
use Rattle.bottleneck_lanes.specs.Critical.{HasArrival, AreArriving}

-- a lane on which something arrives
pub arrival : (junction : JunctionView) (k : ℕ) → HasArrival junction k → (lane : Lane) × (slice_get junction.lanes k ≡ Some lane) × (1 ≤ lane.arrival)
arrival junction k has = some_and (slice_get junction.lanes k) (λ (lane : Lane). 1 ≤ lane.arrival) has

pub arrives : (junction : JunctionView) (k : ℕ) (lane : Lane) → slice_get junction.lanes k ≡ Some lane → 1 ≤ lane.arrival → HasArrival junction k
arrives junction k lane there some = subst (λ o. IsSomeAnd o (λ (lane : Lane). 1 ≤ lane.arrival)) (sym there) some

pub arrival_below : (junction : JunctionView) (k : ℕ) → HasArrival junction k → k < length junction.lanes
arrival_below junction k has = let own = arrival junction k has in slice_get_within junction.lanes k own.0 own.1

pub arrival_within : (junction : JunctionView) (k : ℕ) → IsJunction junction → HasArrival junction k → k < 32
arrival_within junction k rules has = omega (arith, arrival_below junction k has, rules.lanes.few)

-- a test that failed isn't passed
pub no_both : (b : Bool) → b ≡ false → IsTrue b → ⊥
no_both true failed passed = cc
no_both false failed passed = cc

-- below n just the lanes with arrivals are left, and from n on all 32
pub record AreLeft (junction : JunctionView) (n : ℕ) (lanes : LaneSet) : Type 0 where
  pub within : (k : ℕ) → IsIn lanes k → k < 32
  pub below : (k : ℕ) → k < n → IsIn lanes k → HasArrival junction k
  pub each : (k : ℕ) → HasArrival junction k → IsIn lanes k
  pub from : (k : ℕ) → n ≤ k → k < 32 → IsIn lanes k

module _ (junction : JunctionView) (rules : IsJunction junction) where
  pub all_left : (lanes : LaneSet) → lanes ≡ all_lanes → AreLeft junction 0 lanes
  all_left lanes same = rw same (record {
    within = λ k is. elim (cases_lt k 32) [
      | inl below ↦ below
      | inr late ↦ (let one = one_of_set all_lanes.bits k is in
          let none : bit_at all_lanes.bits k ≡ 0 = bit_at_above all_lanes.bits 32 k (omega arith) late in omega (arith, one, none))
    ];
    below = λ k below. absurd (omega (arith, below));
    each = λ k has. chosen k (arrival_within junction k rules has);
    from = λ k late within. chosen k within;
  })

  module _ (n : ℕ) (small : n < 32) (lanes : LaneSet) (left : AreLeft junction n lanes) where
    pub stays : HasArrival junction n → AreLeft junction (n + 1) lanes
    stays has = record {
      within = left.within;
      below = λ k below is. elim (cases_lt k n) [
        | inl less ↦ left.below k less is
        | inr late ↦ (let same : n ≡ k = omega (arith, below, late) in subst (HasArrival junction) same has)
      ];
      each = left.each;
      from = λ k late within. left.from k (omega (arith, late)) within;
    }

    pub goes : ¬ HasArrival junction n → AreLeft junction (n + 1) (without lanes n)
    goes none = record {
      within = λ k is. left.within k (was_in lanes n k is);
      below = λ k below is. (let other = other_than lanes n k small is in left.below k (omega (arith, below, other)) (was_in lanes n k is));
      each = λ k has. still_in lanes n k small (arrival_within junction k rules has) (left.each k has) (λ same. none (subst (HasArrival junction) same has));
      from = λ k late within. still_in lanes n k small within (left.from k (omega (arith, late)) within) (omega (arith, late));
    }

  pub are_arriving : (n : ℕ) (lanes : LaneSet) → 32 ≤ n → AreLeft junction n lanes → AreArriving junction lanes
  are_arriving n lanes all left k is = left.below k (let within = left.within k is in omega (arith, within, all)) is
