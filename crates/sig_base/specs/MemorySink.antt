-- What contracts see of a sink in memory.
use Rattle.std.specs.Prelude.{ℕ, List, [], ◌∷◌, Option, None, Some, if◌then◌else◌}
use Rattle.std.specs.Bool.{nat_eq}
use Rattle.sig_base.specs.CallNumber.{next_number}

pub record MemorySinkState : Type 0 where
  pub bytes : List ℕ
  -- how many pushes there were, as far as 64 bits count
  pub pushes : ℕ
  -- the numbers given to `fail_at`, each with how many bytes are kept, the last one first
  pub failing : List (ℕ × ℕ)
  pub faults : ℕ

-- nothing was written, and there was no fault
abbrev pub empty_sink : MemorySinkState
empty_sink = record { bytes = []; pushes = 0; failing = []; faults = 0 }

-- how many bytes the push of this number keeps, as it was last given; none where it doesn't fail
abbrev pub kept_of : List (ℕ × ℕ) → ℕ → Option ℕ
kept_of [] number = None
kept_of (given ∷ earlier) number = if nat_eq given.0 number then Some given.1 else kept_of earlier number

-- the same of a push that may have no number
abbrev pub kept_by : List (ℕ × ℕ) → Option ℕ → Option ℕ
kept_by failing None = None
kept_by failing (Some number) = kept_of failing number

-- how many bytes the next push keeps, where it fails
abbrev pub next_kept : MemorySinkState → Option ℕ
next_kept s = kept_by s.failing (next_number s.pushes)

-- one more push is to fail, and all else stays
abbrev pub with_failing : MemorySinkState → ℕ → ℕ → MemorySinkState
with_failing s push kept = record { bytes = s.bytes; pushes = s.pushes; failing = (push, kept) ∷ s.failing; faults = s.faults }
