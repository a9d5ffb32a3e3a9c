-- A title's fields are those that its bytes give back.
use Rattle.std.specs.Prelude.{ℕ, List, ◌≡◌, take, length, refl}
use Rattle.sig_base.specs.Padding.{IsPadded, padded_to, padded_back}
use Rattle.sig_base.specs.declared.title.Title.TheInside.{Inside}

abbrev title_fields : List ℕ → ℕ → Inside
title_fields bytes len = record { bytes = bytes; len = len }

pub fields_back : (a : Inside) → IsPadded 60 a.bytes a.len →
    title_fields (padded_to 60 (take a.len a.bytes)) (length (take a.len a.bytes)) ≡ a
fields_back a h = rw (padded_back 60 a.bytes a.len h, h.full) refl
