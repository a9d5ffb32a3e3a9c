-- Looking a name up in a log, write after write.
use Rattle.std.proofs.Common.{ℕ, List, ◌∷◌, ◌≡◌, true, false, Some, String, Vec, map, refl}
use Rattle.std.specs.Global.{Global}
use Rattle.std.specs.Ordering.{nat_cmp}
use Rattle.std.specs.Cmp.Lexicographic.{slice_cmp}
use Rattle.std.specs.FinMap.{find}
use Rattle.std.specs.Str.{bytes_eq}
use Rattle.std.specs.String.{string_bytes}
use Rattle.std.proofs.lemmas.Map.Text.{is_eq-slice_cmp}
use Rattle.sig_base.specs.WriteLog.{entry_of}

pub found_first : (name : List ℕ) (write : String Global × Vec ℕ Global) (rest : List (String Global × Vec ℕ Global)) →
    true ≡ bytes_eq name (string_bytes write.0) → find (slice_cmp nat_cmp) name (map entry_of (write ∷ rest)) ≡ Some write.1.items
found_first name write rest same = rw (is_eq-slice_cmp name (string_bytes write.0), ← same) refl

pub found_later : (name : List ℕ) (write : String Global × Vec ℕ Global) (rest : List (String Global × Vec ℕ Global)) →
    false ≡ bytes_eq name (string_bytes write.0) →
    find (slice_cmp nat_cmp) name (map entry_of (write ∷ rest)) ≡ find (slice_cmp nat_cmp) name (map entry_of rest)
found_later name write rest other = rw (is_eq-slice_cmp name (string_bytes write.0), ← other) refl
