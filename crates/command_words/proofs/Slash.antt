-- A word without a slash spells no multiple.
use Rattle.std.proofs.Common.{ℕ, List, [], Option, None, Some, ◌≡◌, length, refl, eqb, arith}
use Rattle.std.specs.Option.{option_map, option_zip}
use Rattle.std.specs.List.{position_or_len, after_first}
use Rattle.std.proofs.lemmas.List.{drop_all}
use Rattle.command_words.specs.Multiple.{multiple_in}

none_of : {T U V : Type 0} (f : T × U → V) (first : Option T) → None ≡ option_map f (option_zip first None)
none_of f None = refl
none_of f (Some x) = refl

pub no_slash : (word : List ℕ) → position_or_len (λ b. eqb b 47) word ≡ length word → None ≡ multiple_in word
no_slash word e =
    let nothing : after_first (λ b. eqb b 47) word ≡ [] = drop_all _ word (omega arith) in
    rw nothing (none_of _ _)
