-- Calls are numbered from 1, as far as 64 bits count; a later call has no number.
use Rattle.std.specs.Prelude.{ℕ, ◌+◌, ◌-◌, ◌^◌, Option, None, Some, if◌then◌else◌, nat_lt}

-- the number of the call that comes after so many
abbrev pub next_number : ℕ → Option ℕ
next_number calls = if nat_lt calls (2 ^ 64 - 1) then Some (calls + 1) else None
