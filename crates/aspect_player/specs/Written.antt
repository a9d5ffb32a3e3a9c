-- What a call that writes lines has written.
use Rattle.std.specs.Prelude.{ℕ, List, ◌++◌, take, Option, Result, ◌≡◌, ◌≤◌, ◌⊎◌, OnOk, OnErr, IsErrOf}
use Rattle.std.specs.Io.KnownBytes.{Appends}
use Rattle.sig_base.specs.FaultCount.{Rose}
use Rattle.junction_model.specs.Junction.{JunctionView}
use Rattle.aspect_player.specs.Lines.{header_line, display_line, display_text}
use Rattle.aspect_player.specs.Timetable.{Display}
use Rattle.aspect_player.specs.declared.fault.PlayFault.{PlayFault}
use Rattle.aspect_player.specs.declared.fault.PlayFault.TheVariants.{Sink}

-- the whole text, or after a fault a part of it from its beginning; and the cause of the sink's fault
pub record Writes {T : Type 0} (old new : Option (List ℕ)) (text : List ℕ) (faults_old faults_new : ℕ)
    (result : Result T PlayFault) : Type 0 where
  pub whole : OnOk result (Appends old new text)
  pub part : OnErr result ((n : ℕ) × Appends old new (take n text))
  pub later : faults_old ≤ faults_new
  pub failed : IsErrOf result Sink → Rose faults_old faults_new
  -- the count doesn't rise behind the whole text
  pub same : OnOk result (faults_new ≡ faults_old)

-- the whole text before the row of second t was written, and a part of this row from its beginning
abbrev pub IsWithinRow : Option (List ℕ) → Option (List ℕ) → JunctionView → Display → ℕ → Type 0
IsWithinRow old new junction display t =
    (n : ℕ) × Appends old new (display_text junction display t ++ take n (display_line junction display t))

-- a part of the header from its beginning was written
abbrev pub IsWithinHeader : Option (List ℕ) → Option (List ℕ) → JunctionView → Type 0
IsWithinHeader old new junction = (n : ℕ) × Appends old new (take n (header_line junction))

-- what was written ends within the row of second t, or where that is the first one, within the header before it
abbrev pub EndsInRow : Option (List ℕ) → Option (List ℕ) → JunctionView → Display → ℕ → Type 0
EndsInRow old new junction display t =
    IsWithinRow old new junction display t ⊎ ((t ≡ 0) × IsWithinHeader old new junction)
