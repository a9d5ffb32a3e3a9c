-- The words of the command line.
use Rattle.std.specs.Prelude.{codes, ℕ, List, [], ◌∷◌, map, Option, None, Some, Bool, false, not, ◌==◌, ◌&&◌, if◌then◌else◌, option_map, String, string_bytes}
use Rattle.std.specs.Str.{bytes_eq}
use Rattle.std.specs.declared.alloc.Global.{Global}
use Rattle.sig_base.specs.Fraction.{Fraction}
use Rattle.command_words.specs.Number.{number_in}
use Rattle.command_words.specs.Options.{OptionsView, options_of}

abbrev pub texts : List (String Global) → List (List ℕ)
texts words = map string_bytes words

-- a command: the names of a junction and of a certificate, of a search the least multiple and the budget, the
-- seconds that are played, and the number of a sample
pub data CommandView : Type 0 where
  Capacity : List ℕ → List ℕ → Fraction → ℕ → CommandView
  Cycle : List ℕ → List ℕ → Fraction → ℕ → CommandView
  Check : List ℕ → List ℕ → CommandView
  Play : List ℕ → List ℕ → ℕ → CommandView
  Sample : ℕ → List ℕ → List ℕ → CommandView

-- a name isn't empty and doesn't begin with `-`
abbrev pub is_file_name : List ℕ → Bool
is_file_name [] = false
is_file_name (first ∷ rest) = not (first == 45)

-- two names that differ
abbrev pub are_names : List ℕ → List ℕ → Bool
are_names junction certificate = is_file_name junction && is_file_name certificate && not (bytes_eq junction certificate)

-- a command that searches, by its names, the least multiple and the budget
abbrev pub SearchCommand : Type 0
SearchCommand = List ℕ → List ℕ → Fraction → ℕ → CommandView

-- `JUNCTION CERT [--least N/D] [--budget N]`
abbrev pub search_in : SearchCommand → List (List ℕ) → Option CommandView
search_in command (junction ∷ certificate ∷ options) =
    (if are_names junction certificate then option_map (λ (o : OptionsView). command junction certificate o.least o.budget) (options_of options) else None)
search_in command _ = None

-- `JUNCTION CERT`
abbrev pub check_in : List (List ℕ) → Option CommandView
check_in (junction ∷ certificate ∷ []) = (if are_names junction certificate then Some (Check junction certificate) else None)
check_in _ = None

-- the most seconds that are played: a week
abbrev pub most_seconds : ℕ
most_seconds = 604800

-- `JUNCTION CERT SECONDS`
abbrev pub play_in : List (List ℕ) → Option CommandView
play_in (junction ∷ certificate ∷ seconds ∷ []) =
    (if are_names junction certificate then option_map (Play junction certificate) (number_in 0 most_seconds seconds) else None)
play_in _ = None

-- the greatest number of a sample
abbrev pub greatest_number : ℕ
greatest_number = 4294967295

-- `NUMBER JUNCTION CERT`
abbrev pub sample_in : List (List ℕ) → Option CommandView
sample_in (number ∷ junction ∷ certificate ∷ []) =
    (if are_names junction certificate then option_map (λ n. Sample n junction certificate) (number_in 0 greatest_number number) else None)
sample_in _ = None

-- the command that the words spell, or none: the first word says which it is
abbrev pub command_of : List (List ℕ) → Option CommandView
command_of [] = None
command_of (verb ∷ words) =
    (if bytes_eq verb (codes "capacity") then search_in Capacity words
    else if bytes_eq verb (codes "cycle") then search_in Cycle words
    else if bytes_eq verb (codes "check") then check_in words
    else if bytes_eq verb (codes "play") then play_in words
    else if bytes_eq verb (codes "sample") then sample_in words
    else None)
