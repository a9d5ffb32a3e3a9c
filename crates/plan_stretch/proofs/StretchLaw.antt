-- Why a stretched plan fits and meets what the plan met.
use Rattle.std.proofs.Common.{ℕ, ◌≡◌, ◌+◌, ◌-◌, ◌<◌, ◌≤◌, refl, arith}
use Rattle.std.specs.Prelude.{Some, slice_get}
use Rattle.std.proofs.lemmas.Option.{slice_get_within}
use Rattle.sig_base.specs.Fraction.{Fraction, IsAtMost}
use Rattle.sig_base.proofs.Fraction.{at_most_trans}
use Rattle.sig_base.specs.declared.lane_set.LaneSet.{LaneSet}
use Rattle.junction_model.specs.declared.group.Group.{Group}
use Rattle.junction_model.specs.Junction.{JunctionView}
use Rattle.junction_model.specs.Rules.{IsJunction}
use Rattle.plan_model.specs.SignalPlan.{PlanView, green_of}
use Rattle.plan_model.specs.Fits.{Fits, group_count}
use Rattle.plan_model.specs.Gap.{gap, HasGaps}
use Rattle.plan_model.specs.Multiplier.{IsLeastMultiplier}
use Rattle.plan_model.specs.Serving.{IsAsLong}
use Rattle.plan_model.proofs.Gaps.{gaps_of_clear, spaced_fits}
use Rattle.plan_model.proofs.IsShown.{fits_shown}
use Rattle.plan_model.proofs.LaneMultiplier.{lane_denominator_law}
use Rattle.plan_model.proofs.Serving.{same_lane, serving_law}
use Rattle.plan_stretch.specs.Stretch.{IsRoom, IsLongestGreen, IsStretched, IsStretchOf}
use Rattle.plan_stretch.specs.StretchLaw.{IsNoWorse, StretchLaw}

module _ (junction : JunctionView) (p q : PlanView) (rules : IsJunction junction) (fits : Fits junction p) (of : IsStretchOf junction p q) where
  same_gap : (i j : ℕ) → gap q i j ≡ gap p i j
  same_gap i j = rw (of.cycle, of.starts) refl

  gaps : HasGaps junction p
  gaps = gaps_of_clear junction p (fits_shown junction p rules fits) fits.clear

  -- every conflicting group leaves the stretched green
  stretched_gaps : HasGaps junction q
  stretched_gaps i j w hi hj is =
      let green = of.longest i hi in
      let enough : green_of p i + w ≤ gap p i j = gaps i j w hi hj is in
      let other : ℕ = gap p i j - w in
      let most : green.room ≤ other = green.left.least j other hj (w, is, omega arith) in
      rw (same_gap i j) (omega (arith, green.value))

  -- and the old one ends before all of them
  longer : (i : ℕ) → i < group_count junction → green_of p i ≤ green_of q i
  longer i hi =
      let green = of.longest i hi in
      let (j, hj, room) = green.left.left in
      omega (arith, green.value, room.2, gaps i j room.0 hi hj room.1, fits.longest i green.group green.there)

  as_long : IsAsLong junction p q
  as_long = record { cycle = of.cycle; greens = longer }

  at_most_maximum : (i : ℕ) (group : Group) → slice_get junction.groups i ≡ Some group → green_of q i ≤ group.times.max_green
  at_most_maximum i group is =
      let green = of.longest i (slice_get_within _ _ _ is) in
      let there : slice_get junction.groups i ≡ Some green.group = green.there in
      let same : group ≡ green.group = cc in
      rw same (omega (arith, green.value))

  stretched_fits : Fits junction q
  stretched_fits = spaced_fits junction q rules (record {
    groups = record { starts = rw of.starts fits.groups.starts; greens = of.groups };
    cycle = record { least = rw of.cycle fits.cycle.least; greatest = rw of.cycle fits.cycle.greatest };
    starts = rw (of.cycle, of.starts) fits.starts;
    greens = λ i group is. omega (arith, fits.greens i group is, longer i (slice_get_within _ _ _ is));
    longest = at_most_maximum;
    gaps = stretched_gaps;
    links = λ k d h. rw (of.cycle, of.starts) (fits.links k d h);
  })

  same_room : (i j room : ℕ) → IsRoom junction p i j room → IsRoom junction q i j room
  same_room i j room (w, is, left) = (w, is, rw (same_gap i j) left)

  room_before : (i j room : ℕ) → IsRoom junction q i j room → IsRoom junction p i j room
  room_before i j room (w, is, left) = (w, is, rw (← same_gap i j) left)

  same_longest : (i green : ℕ) → IsLongestGreen junction p i green → IsLongestGreen junction q i green
  same_longest i green longest = record {
    group = longest.group;
    there = longest.there;
    room = longest.room;
    left = record {
      left = (longest.left.left.0, longest.left.left.1, same_room i longest.left.left.0 longest.room longest.left.left.2);
      least = λ j other hj room. longest.left.least j other hj (room_before i j other room);
    };
    value = longest.value;
  }

  stretched : IsStretched junction q
  stretched = record { fits = stretched_fits; longest = λ i hi. same_longest i (green_of q i) (of.longest i hi) }

  -- the lane that has the new multiplier had no more before
  more_multiplier : (lanes : LaneSet) (m n : Fraction) → IsLeastMultiplier junction p lanes m → IsLeastMultiplier junction q lanes n → IsAtMost m n
  more_multiplier lanes m n of_m of_n =
      let (k, more, counts, same) = of_n.reached in
      let own = same_lane junction p q k more as_long counts.multiplier in
      let some : 1 ≤ q.cycle = rw of.cycle (fits_shown junction p rules fits).cycle in
      at_most_trans m more n (lane_denominator_law junction q k more rules some counts.multiplier)
      ((own.2 m).0 (of_m.least k own.0 (record { chosen = counts.chosen; multiplier = own.1 }))) (omega (arith, same))

  no_worse : IsNoWorse junction p q
  no_worse = record {
    greens = as_long;
    multiplier = more_multiplier;
    meets = λ m met. record { fits = stretched_fits; reaches = (serving_law junction p q as_long).0 m met.reaches };
    meets_target = λ lanes target met. record { fits = stretched_fits; serves = (serving_law junction p q as_long).1 lanes target met.serves };
  }

pub stretch_law : StretchLaw
stretch_law junction p q rules fits of = (stretched junction p q rules fits of, no_worse junction p q rules fits of)
