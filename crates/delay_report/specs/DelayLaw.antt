-- Where a delay is a number.
use Rattle.std.specs.Prelude.{ℕ, ◌≤◌}
use Rattle.flow_model.specs.declared.lane.Lane.{Lane}
use Rattle.delay_report.specs.Delay.{IsUnsaturated, uniform_delay, random_delay, delay_of}

-- the denominators of a lane's delay that isn't saturated are at least 1
abbrev pub DelayLaw : Type 0
DelayLaw = (lane : Lane) (effective cycle : ℕ) → IsUnsaturated lane effective cycle →
    (1 ≤ (uniform_delay lane effective cycle).den) × (1 ≤ (random_delay lane effective cycle).den)
    × (1 ≤ (delay_of lane effective cycle).den)
