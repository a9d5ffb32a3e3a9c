-- A label's fields are those that its bytes give back.
use Rattle.std.specs.Prelude.{ℕ, List, ◌≡◌, take, length, refl}
use Rattle.sig_base.specs.Padding.{IsPadded, padded_to, padded_back}
use Rattle.sig_base.specs.declared.label.Label.TheInside.{Inside}

abbrev label_fields : List ℕ → ℕ → Inside
label_fields bytes len = record { bytes = bytes; len = len }

pub fields_back : (a : Inside) → IsPadded 16 a.bytes a.len →
    label_fields (padded_to 16 (take a.len a.bytes)) (length (take a.len a.bytes)) ≡ a
fields_back a h = rw (padded_back 16 a.bytes a.len h, h.full) refl
