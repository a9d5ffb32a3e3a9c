use Rattle.std.proofs.Common.{Bool, List, [], ◌∷◌, map, position, ◌≡◌, refl}
use Rattle.std.specs.List.{prefix_len}
use Rattle.std.proofs.lemmas.List.{length-map}
use Rattle.toml.specs.View.{view}
use Rattle.junction_files.specs.Meaning.{has_name}
use Rattle.junction_files.proofs.reading.fields.group_number.Goals as goal

prefix_len-map : {X Y : Type 0} (p : Y → Bool) (f : X → Y) (xs : List X) → prefix_len p (map f xs) ≡ prefix_len (λ x. p (f x)) xs
prefix_len-map p f [] = refl
prefix_len-map p f (x ∷ xs) = rw (prefix_len-map p f xs) refl

position-map : {X Y : Type 0} (p : Y → Bool) (f : X → Y) (xs : List X) → position p (map f xs) ≡ position (λ x. p (f x)) xs
position-map p f xs = rw (prefix_len-map _ f xs, length-map xs f) refl

pub returns : goal.returns
returns c =
    let same = position-map (has_name c.args.name.now) view c.elements.result.now in
    rw (c.unwrap_or.ensures, c.first_named.ensures, ← same, c.elements.ensures) refl
