-- What contracts see of the parts of a command that searches.
use Rattle.std.specs.Prelude.{ℕ, List, Option, option_map, ◌≡◌}
use Rattle.sig_base.specs.Ratio.{fraction_of}
use Rattle.command_words.specs.Words.{CommandView, SearchCommand, search_in}
use Rattle.command_words.specs.declared.forms.Search.{Search}

abbrev pub search_view : SearchCommand → Search → CommandView
search_view command s = command s.junction.now s.certificate.now (fraction_of s.least) s.budget

-- the parts that words spell, whichever command it is
abbrev pub IsSearchIn : List (List ℕ) → Option Search → Type 0
IsSearchIn words found = (command : SearchCommand) → option_map (search_view command) found ≡ search_in command words
