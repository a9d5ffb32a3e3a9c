-- The rules of labels and titles, over their bytes.
use Rattle.std.specs.Prelude.{ℕ, List, length, ◌≤◌, ◌≡◌, ◌⊎◌, All}

-- from `low` to `high`, both included
abbrev pub IsBetween : ℕ → ℕ → ℕ → Type 0
IsBetween low high byte = (low ≤ byte) × (byte ≤ high)

-- a letter A to Z or a to z, a digit, `_` or `-`
abbrev pub IsLabelByte : ℕ → Type 0
IsLabelByte byte = IsBetween 65 90 byte ⊎ (IsBetween 97 122 byte ⊎ (IsBetween 48 57 byte ⊎ ((byte ≡ 95) ⊎ (byte ≡ 45))))

-- the name of a group or a lane
pub record IsLabel (bytes : List ℕ) : Type 0 where
  pub nonempty : 1 ≤ length bytes
  pub short : length bytes ≤ 16
  pub plain : All IsLabelByte bytes

-- the name of a junction: printable bytes, the blank among them
pub record IsTitle (bytes : List ℕ) : Type 0 where
  pub nonempty : 1 ≤ length bytes
  pub short : length bytes ≤ 60
  pub plain : All (IsBetween 32 126) bytes
