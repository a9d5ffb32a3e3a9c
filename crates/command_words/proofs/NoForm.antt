-- Words of another number than a form has.
use Rattle.std.proofs.Common.{List, [], ◌∷◌, None, ◌≡◌, ◌≢◌, ◌<◌, length, String, refl, arith}
use Rattle.std.specs.declared.alloc.Global.{Global}
use Rattle.command_words.specs.Words.{texts, SearchCommand, search_in, play_in, sample_in}
use Rattle.command_words.specs.Options.{options_of}

pub no_options : (words : List (String Global)) → length words ≢ 0 → length words ≢ 2 → length words ≢ 4 → None ≡ options_of (texts words)
no_options [] a b c = elim (a refl) [ ]
no_options (_ ∷ []) a b c = refl
no_options (_ ∷ (_ ∷ [])) a b c = elim (b refl) [ ]
no_options (_ ∷ (_ ∷ (_ ∷ []))) a b c = refl
no_options (_ ∷ (_ ∷ (_ ∷ (_ ∷ [])))) a b c = elim (c refl) [ ]
no_options (_ ∷ (_ ∷ (_ ∷ (_ ∷ (_ ∷ _))))) a b c = refl

pub no_search : (words : List (String Global)) (command : SearchCommand) → length words < 2 → None ≡ search_in command (texts words)
no_search [] command few = refl
no_search (_ ∷ []) command few = refl
no_search (_ ∷ (_ ∷ more)) command few = absurd (omega arith)

pub no_play : (words : List (String Global)) → length words ≢ 3 → None ≡ play_in (texts words)
no_play [] other = refl
no_play (_ ∷ []) other = refl
no_play (_ ∷ (_ ∷ [])) other = refl
no_play (_ ∷ (_ ∷ (_ ∷ []))) other = elim (other refl) [ ]
no_play (_ ∷ (_ ∷ (_ ∷ (_ ∷ _)))) other = refl

pub no_sample : (words : List (String Global)) → length words ≢ 3 → None ≡ sample_in (texts words)
no_sample [] other = refl
no_sample (_ ∷ []) other = refl
no_sample (_ ∷ (_ ∷ [])) other = refl
no_sample (_ ∷ (_ ∷ (_ ∷ []))) other = elim (other refl) [ ]
no_sample (_ ∷ (_ ∷ (_ ∷ (_ ∷ _)))) other = refl
