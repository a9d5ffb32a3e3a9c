use Rattle.std.proofs.Common.{◌≡◌}
use Rattle.least_greens.specs.Targets.{IsNotAbove}
use Rattle.cycle_orders.specs.Place.{AreStartsHere}
use Rattle.cycle_orders.specs.Raised.{needs_left}
use Rattle.cycle_orders.specs.Search.{WasRunning}
use Rattle.cycle_orders.specs.Standing.{IsPlaceFor}
use Rattle.cycle_orders.specs.declared.place.Standing.TheVariants.{At}
use Rattle.cycle_orders.proofs.raising.raise_until_closed.Given as goal

abbrev pub invariant-loop-ratio : goal.invariant-loop-ratio
invariant-loop-ratio g l = record {
  risen : IsNotAbove l.fn.target l.running;
  running : WasRunning l.search l.running;
  place : IsPlaceFor l.search l.running l.place;
  coming : l.place.coming ≡ l.fn.place.coming;
  entered : l.place.standing ≡ At;
  full : AreStartsHere l.place l.starts;
}

abbrev pub decreases-loop-ratio : goal.decreases-loop-ratio
decreases-loop-ratio g l = needs_left l.search l.running
