-- A walk's fields are those that its groups give back.
use Rattle.std.specs.Prelude.{ℕ, List, ◌≡◌, take, length, refl}
use Rattle.sig_base.specs.Padding.{IsPadded, padded_to, padded_back}
use Rattle.constraint_cycles.specs.declared.walk.Walk.TheInside.{Inside}

abbrev walk_fields : List ℕ → ℕ → Inside
walk_fields cells len = record { cells = cells; len = len }

pub fields_back : (w : Inside) → IsPadded 16 w.cells w.len →
    walk_fields (padded_to 16 (take w.len w.cells)) (length (take w.len w.cells)) ≡ w
fields_back w h = rw (padded_back 16 w.cells w.len h, h.full) refl
