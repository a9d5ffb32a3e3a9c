-- The multiple of the arrivals that a word spells.
use Rattle.std.specs.Prelude.{ℕ, zero, suc, List, Option, ◌==◌, ◌&&◌, ◌%◌, ◌/◌, if◌then◌else◌, option_map}
use Rattle.std.specs.Option.{option_zip}
use Rattle.std.specs.List.{before_first, after_first}
use Rattle.sig_base.specs.Fraction.{Fraction, over}
use Rattle.command_words.specs.Number.{number_in}

-- the greatest number up to a bound that divides both
unfoldable pub common_divisor_up_to : ℕ → ℕ → ℕ → ℕ
common_divisor_up_to zero a b = 1
common_divisor_up_to (suc n) a b = (if a % suc n == 0 && b % suc n == 0 then suc n else common_divisor_up_to n a b)

-- the fraction with the parts of `num / den` divided by the greatest number that divides both
abbrev pub in_lowest_terms : ℕ → ℕ → Fraction
in_lowest_terms num den = let divisor = common_divisor_up_to den num den in over (num / divisor) (den / divisor)

-- the greatest numerator and denominator of a multiple
abbrev pub greatest_part : ℕ
greatest_part = 1000000

-- the multiple that a word `N/D` spells, or none: two numbers with one slash between them
abbrev pub multiple_in : List ℕ → Option Fraction
multiple_in word =
    option_map (λ (parts : ℕ × ℕ). in_lowest_terms parts.0 parts.1)
    (option_zip (number_in 0 greatest_part (before_first (λ byte. byte == 47) word)) (number_in 1 greatest_part (after_first (λ byte. byte == 47) word)))
