-- The steps of a run.
use Rattle.std.specs.Prelude.{ℕ, List, [], ◌∷◌, length, take, Option, Some, ◌≡◌, ◌≤◌, ◌⊎◌, IfSome}
use Rattle.std.specs.Io.KnownBytes.{Appends, Keeps}
use Rattle.sig_base.specs.FaultCount.{Rose}
use Rattle.sig_base.specs.Shelf.{Holdings, held}
use Rattle.junction_program.specs.Runs.{Outside, SinkView, put_all}
use Rattle.junction_program.specs.Outcomes.{Answer, OrPushFault}
use Rattle.junction_program.specs.declared.status.Status.{Status}
use Rattle.junction_program.specs.declared.status.Status.TheVariants.{SinkFailed, Memory}

-- nothing was put or pushed, and no fault was counted
pub record IsUnchanged (before after : Outside) : Type 0 where
  pub holds : after.shelf.holds ≡ before.shelf.holds
  pub faults : after.shelf.faults ≡ before.shelf.faults
  pub refusals : after.shelf.refusals ≡ before.shelf.refusals
  pub sink : after.sink ≡ before.sink

-- the bytes of a name, where the shelf tells them
pub record IsFetched (shelf : Option Holdings) (name : List ℕ) (limit : ℕ) (bytes : List ℕ) : Type 0 where
  pub short : length bytes ≤ limit
  pub told_bytes : IfSome shelf (λ m. held m name ≡ Some bytes)

-- the name was made to hold the bytes, nothing was pushed, and no fault was counted
pub record IsPut (name bytes : List ℕ) (before after : Outside) : Type 0 where
  pub holds : after.shelf.holds ≡ put_all before.shelf.holds ((name, bytes) ∷ [])
  pub faults : after.shelf.faults ≡ before.shelf.faults
  pub refusals : after.shelf.refusals ≡ before.shelf.refusals
  pub sink : after.sink ≡ before.sink

-- one push of the text of a status, or the fault of the push
pub record IsPushed (text : List ℕ) (status : Status) (before after : SinkView) (given : Status) : Type 0 where
  pub ends : OrPushFault status given
  pub whole : given ≡ status → Appends before.written after.written text
  pub uncounted : given ≡ status → after.faults ≡ before.faults
  pub fault : given ≡ SinkFailed → Rose before.faults after.faults
  pub part : given ≡ SinkFailed → (n : ℕ) × Appends before.written after.written (take n text)
  pub nothing : given ≡ Memory → Keeps before.written after.written

-- a text of the status pushed in several parts, or the fault of one of them, or want of memory between two
pub record IsPushedInParts (text : List ℕ) (status : Status) (before after : SinkView) (given : Status) : Type 0 where
  pub ends : OrPushFault status given
  pub whole : given ≡ status → Appends before.written after.written text
  pub uncounted : given ≡ status → after.faults ≡ before.faults
  pub fault : given ≡ SinkFailed → Rose before.faults after.faults
  pub part : (given ≡ SinkFailed) ⊎ (given ≡ Memory) → (n : ℕ) × Appends before.written after.written (take n text)

-- the answer with no put
abbrev pub only_text : Status → List ℕ → Answer
only_text status text = record { status = status; text = text; puts = [] }

-- the answer that puts the bytes under the name first
abbrev pub after_put : List ℕ → List ℕ → Answer → Answer
after_put name bytes answer = record { status = answer.status; text = answer.text; puts = (name, bytes) ∷ answer.puts }

-- nothing is fetched
abbrev pub FetchesNothing : List ℕ → ℕ → Type 0
FetchesNothing name limit = ⊥

-- nothing is put, or the bytes under the name
abbrev pub PutsOne : List ℕ → List ℕ → List (List ℕ × List ℕ) → Type 0
PutsOne name bytes made = (made ≡ []) ⊎ (made ≡ (name, bytes) ∷ [])

abbrev pub sink_of : {K : Type 0} → (K → Option (List ℕ)) → (K → ℕ) → K → SinkView
sink_of written faults sink = record { written = written sink; faults = faults sink }
