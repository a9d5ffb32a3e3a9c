-- A trail's fields are those that its groups give back.
use Rattle.std.specs.Prelude.{ℕ, List, ◌≡◌, take, length, reverse, refl}
use Rattle.std.proofs.lemmas.List.{length-reverse, reverse-reverse}
use Rattle.sig_base.specs.Padding.{IsPadded, padded_to, padded_back}
use Rattle.difference_system.specs.declared.trail.Trail.TheInside.{Inside}

abbrev trail_fields : List ℕ → ℕ → Inside
trail_fields cells len = record { cells = cells; len = len }

pub fields_back : (t : Inside) → IsPadded 16 t.cells t.len →
    trail_fields (padded_to 16 (reverse (reverse (take t.len t.cells)))) (length (reverse (take t.len t.cells))) ≡ t
fields_back t h = rw (reverse-reverse (take t.len t.cells), length-reverse (take t.len t.cells), padded_back 16 t.cells t.len h, h.full) refl
