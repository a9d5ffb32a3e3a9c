-- Effective greens, and what a lane has of them at a cycle. The multiplier is made after the reserve
-- capacity of Allsop's SIGCAP, with the lane as the unit.
use Rattle.std.specs.Prelude.{ℕ, ◌+◌, ◌-◌, ◌*◌, ◌≤◌}
use Rattle.sig_base.specs.Fraction.{Fraction, over}
use Rattle.sig_base.specs.declared.group_times.GroupTimes.{GroupTimes}
use Rattle.flow_model.specs.declared.lane.Lane.{Lane}

-- flows are in vehicles per hour, the limit in per mille
pub record AreFlows (lane : Lane) : Type 0 where
  pub arrival : lane.arrival ≤ 20000
  pub some_saturation : 1 ≤ lane.saturation
  pub saturation : lane.saturation ≤ 20000
  pub allowed : 1 ≤ lane.limit
  pub limit : lane.limit ≤ 1000

-- seconds in which the queue flows at its saturation flow
abbrev pub effective_green : GroupTimes → ℕ → ℕ
effective_green times green = green + times.end_gain - times.start_lost

-- the greatest multiple of the lane's arrivals at which its degree of saturation stays within its limit
abbrev pub lane_multiplier_of : Lane → ℕ → ℕ → Fraction
lane_multiplier_of lane effective cycle = over (lane.limit * lane.saturation * effective) (1000 * lane.arrival * cycle)

-- the degree of saturation: what arrives in a cycle over what can leave in it
abbrev pub saturation_of : Lane → ℕ → ℕ → Fraction
saturation_of lane effective cycle = over (lane.arrival * cycle) (lane.saturation * effective)
