-- The mean delay per vehicle: Webster (1958), the uniform and the random term times 9/10, with
-- flows in vehicles per hour and times in seconds. Webster's flows are per second, and half the
-- squared degree of saturation stands in his random term: 1620 is 9/10 of half of 3600.
use Rattle.std.specs.Prelude.{ℕ, ◌+◌, ◌-◌, ◌*◌, ◌^◌, ◌<◌, ◌≤◌}
use Rattle.sig_base.specs.Fraction.{Fraction, over}
use Rattle.sig_base.specs.Times.{IsCycle}
use Rattle.flow_model.specs.declared.lane.Lane.{Lane}
use Rattle.flow_model.specs.Lane.{AreFlows}

-- as much arrives in a cycle as can leave in it, or more
abbrev pub IsSaturated : Lane → ℕ → ℕ → Type 0
IsSaturated lane effective cycle = lane.saturation * effective ≤ lane.arrival * cycle

-- less arrives, with the effective green within a cycle that a plan may have
pub record IsUnsaturated (lane : Lane) (effective cycle : ℕ) : Type 0 where
  pub flows : AreFlows lane
  pub within : effective ≤ cycle
  pub allowed : IsCycle cycle
  pub less : lane.arrival * cycle < lane.saturation * effective

abbrev pub plus : Fraction → Fraction → Fraction
plus a b = over (a.num * b.den + b.num * a.den) (a.den * b.den)

-- what regular arrivals wait for
abbrev pub uniform_delay : Lane → ℕ → ℕ → Fraction
uniform_delay lane effective cycle =
    over (9 * (cycle - effective) ^ 2 * lane.saturation)
    (20 * cycle * (lane.saturation - lane.arrival))

-- what random arrivals add
abbrev pub random_delay : Lane → ℕ → ℕ → Fraction
random_delay lane effective cycle =
    over (1620 * lane.arrival * cycle ^ 2)
    (lane.saturation * effective * (lane.saturation * effective - lane.arrival * cycle))

-- seconds per vehicle
abbrev pub delay_of : Lane → ℕ → ℕ → Fraction
delay_of lane effective cycle =
    plus (uniform_delay lane effective cycle) (random_delay lane effective cycle)
