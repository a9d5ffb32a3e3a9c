-- Texts of at most a given size, kept in an array that is 0 behind them.
use Rattle.std.specs.Prelude.{ℕ, List, ◌++◌, ◌≡◌, take, drop, length, replicate}
use Rattle.std.proofs.lemmas.List.{take-append-drop}

pub record IsPadded (size : ℕ) (bytes : List ℕ) (len : ℕ) : Type 0 where
  pub full : length (take len bytes) ≡ len
  pub zeros : drop len bytes ≡ drop len (replicate size 0)

-- the text, and zeros up to the size
abbrev pub padded_to : ℕ → List ℕ → List ℕ
padded_to size text = text ++ drop (length text) (replicate size 0)

pub padded_back : (size : ℕ) (bytes : List ℕ) (len : ℕ) → IsPadded size bytes len → padded_to size (take len bytes) ≡ bytes
padded_back size bytes len h = rw (h.full, ← h.zeros) (take-append-drop len bytes)
