-- Numbers as words spell them.
use Rattle.std.specs.Prelude.{ℕ, List, [], ◌∷◌, Bool, false, not, Option, None, Some, ◌==◌, ◌&&◌, if◌then◌else◌, nat_le}
use Rattle.std.specs.Char.{is_ascii_digit}
use Rattle.std.specs.List.{list_all}
use Rattle.std.specs.Str.Parse.{digits_value}

-- one or more digits 0 to 9, where only the word `0` begins with a 0
abbrev pub is_numeral : List ℕ → Bool
is_numeral [] = false
is_numeral (digit ∷ []) = is_ascii_digit digit
is_numeral (first ∷ rest) = not (first == 48) && list_all is_ascii_digit (first ∷ rest)

-- the number that its digits write, in the decimal system
abbrev pub decimal_value : List ℕ → ℕ
decimal_value digits = digits_value 10 digits

-- the number from `low` to `high` that a word spells, or none
abbrev pub number_in : ℕ → ℕ → List ℕ → Option ℕ
number_in low high word = (if is_numeral word && nat_le low (decimal_value word) && nat_le (decimal_value word) high then Some (decimal_value word) else None)
