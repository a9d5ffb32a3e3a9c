-- The draws from which a sample is made: those of a linear congruential generator, with the multiplier and the increment of the
-- example of `rand` in the C standard (ISO/IEC 9899).
use Rattle.std.specs.Prelude.{ℕ, zero, suc, ◌+◌, ◌*◌, ◌/◌, ◌%◌, ◌^◌}

-- the state in which the sample of a number begins
abbrev pub first_state : ℕ → ℕ
first_state number = number % 2 ^ 31

-- the state that follows a state
abbrev pub next_state : ℕ → ℕ
next_state x = (1103515245 * x + 12345) % 2 ^ 31

-- the state after so many draws from the state x on
abbrev pub state_after : ℕ → ℕ → ℕ
state_after x zero = x
state_after x (suc k) = next_state (state_after x k)

-- draw k, from 0, of those that are made from the state x on: a number below 32768
abbrev pub raw_draw : ℕ → ℕ → ℕ
raw_draw x k = state_after x (k + 1) / 65536

-- the same draw as a number below n
abbrev pub draw : ℕ → ℕ → ℕ → ℕ
draw x k n = raw_draw x k % n
