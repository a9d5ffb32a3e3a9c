-- The options of a search.
use Rattle.std.specs.Prelude.{codes, ℕ, List, [], ◌∷◌, Bool, Option, None, Some, ◌&&◌, if◌then◌else◌, option_map}
use Rattle.std.specs.Option.{option_zip}
use Rattle.std.specs.Str.{bytes_eq}
use Rattle.sig_base.specs.Fraction.{Fraction, over}
use Rattle.command_words.specs.Number.{number_in}
use Rattle.command_words.specs.Multiple.{multiple_in}

-- the least multiple that a plan has to carry, and the most nodes that the search may visit
pub record OptionsView : Type 0 where
  pub least : Fraction
  pub budget : ℕ

abbrev pub default_least : Fraction
default_least = over 1 1

abbrev pub default_budget : ℕ
default_budget = 200000

abbrev pub greatest_budget : ℕ
greatest_budget = 18446744073709551615

abbrev pub budget_in : List ℕ → Option ℕ
budget_in word = number_in 1 greatest_budget word

abbrev pub is_least : List ℕ → Bool
is_least word = bytes_eq word (codes "--least")

abbrev pub is_budget : List ℕ → Bool
is_budget word = bytes_eq word (codes "--budget")

-- both, where each of them is there
abbrev pub both_of : Option Fraction → Option ℕ → Option OptionsView
both_of least budget = option_map (λ (both : Fraction × ℕ). record { least = both.0; budget = both.1 }) (option_zip least budget)

-- the options that words spell, or none: each at most once, in either order, its value as the next word
abbrev pub options_of : List (List ℕ) → Option OptionsView
options_of [] = both_of (Some default_least) (Some default_budget)
options_of (key ∷ value ∷ []) =
    (if is_least key then both_of (multiple_in value) (Some default_budget)
    else if is_budget key then both_of (Some default_least) (budget_in value) else None)
options_of (first ∷ one ∷ second ∷ other ∷ []) =
    (if is_least first && is_budget second then both_of (multiple_in one) (budget_in other)
    else if is_budget first && is_least second then both_of (multiple_in other) (budget_in one) else None)
options_of _ = None
