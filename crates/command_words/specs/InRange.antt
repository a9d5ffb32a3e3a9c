-- The ranges of a command's parts.
use Rattle.std.specs.Prelude.{ℕ, ◌≤◌, ◌<◌, ◌^◌}
use Rattle.sig_base.specs.Fraction.{Fraction, IsLowest}
use Rattle.command_words.specs.Multiple.{greatest_part}
use Rattle.command_words.specs.Words.{CommandView, Capacity, Cycle, Check, Play, Sample, most_seconds, greatest_number}

-- in lowest terms, with parts of at most 1000000
pub record IsLeast (f : Fraction) : Type 0 where
  pub num : f.num ≤ greatest_part
  pub den : f.den ≤ greatest_part
  pub lowest : IsLowest f.num f.den

-- such a least multiple, and a budget of at least 1 node and at most 64 bits
pub record AreOptions (multiple : Fraction) (budget : ℕ) : Type 0 where
  pub least : IsLeast multiple
  pub some : 1 ≤ budget
  pub bounded : budget < 2 ^ 64

-- the least multiple and the budget of a search, the seconds that are played, and the number of a sample are in their ranges
abbrev pub IsCommandInRange : CommandView → Type 0
IsCommandInRange (Capacity junction certificate least budget) = AreOptions least budget
IsCommandInRange (Cycle junction certificate least budget) = AreOptions least budget
IsCommandInRange (Check junction certificate) = Unit {0}
IsCommandInRange (Play junction certificate seconds) = seconds ≤ most_seconds
IsCommandInRange (Sample number junction certificate) = number ≤ greatest_number
