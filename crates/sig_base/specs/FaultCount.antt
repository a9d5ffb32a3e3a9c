-- Counts of faults, which stand still at the greatest number of 64 bits.
use Rattle.std.specs.Prelude.{ℕ, Bool, ◌+◌, ◌-◌, ◌^◌, ◌≤◌, min, if◌then◌else◌}

-- the count after one more
abbrev pub counted_on : ℕ → ℕ
counted_on count = min (count + 1) (2 ^ 64 - 1)

-- the count after a call, which is one more where the call fails
abbrev pub counted_if : Bool → ℕ → ℕ
counted_if fails count = if fails then counted_on count else count

-- the count rose, or stands at its end
abbrev pub Rose : ℕ → ℕ → Type 0
Rose before now = counted_on before ≤ now
