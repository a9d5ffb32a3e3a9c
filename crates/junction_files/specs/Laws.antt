-- What is true of all bytes of a junction file.
use Rattle.std.specs.Prelude.{ℕ, List, [], ◌≡◌, ◌⊎◌, All}
use Rattle.toml.specs.Data.{Members, table}
use Rattle.junction_model.specs.Junction.{JunctionView}
use Rattle.junction_model.specs.declared.group.Group.{Group}
use Rattle.junction_files.specs.Document.{version_of}
use Rattle.junction_files.specs.Faults.{Fault, Stands}
use Rattle.junction_files.specs.Reads.{IsDocument, Spells, IsRefusal}
use Rattle.junction_files.specs.declared.document.Version.TheVariants.{First}
use Rattle.junction_files.specs.declared.faults.Kind.{Kind}
use Rattle.junction_files.specs.declared.faults.Place.{Place}
use Rattle.junction_files.specs.declared.faults.JunctionFault.TheVariants.{Refused}

-- bytes spell at most one junction
abbrev pub OneJunctionLaw : Type 0
OneJunctionLaw = (bytes : List ℕ) (j k : JunctionView) → Spells bytes j → Spells bytes k → j ≡ k

-- bytes that spell a junction are refused for no fault
abbrev pub RefusalLaw : Type 0
RefusalLaw = (bytes : List ℕ) (j : JunctionView) (k : Kind) (p : Place) → Spells bytes j → ¬ IsRefusal bytes (Refused k p)

-- a document without a fault spells a junction
abbrev pub FaultlessLaw : Type 0
FaultlessLaw = (bytes : List ℕ) (document : Members) → IsDocument bytes document → ((f : Fault) → ¬ Stands (table document) f) →
    (j : JunctionView) × Spells bytes j

-- a file of the first version gives no maximum green and no link
abbrev pub FirstVersionLaw : Type 0
FirstVersionLaw = (bytes : List ℕ) (j : JunctionView) (spelled : Spells bytes j) → version_of (table spelled.document) ≡ First →
    All (λ (group : Group). group.times.max_green ≡ 300) j.groups × (j.conflicts.links ≡ [])

-- bytes are refused for one kind of fault at one place
abbrev pub OneRefusalLaw : Type 0
OneRefusalLaw = (bytes : List ℕ) (k l : Kind) (p q : Place) →
    IsRefusal bytes (Refused k p) → IsRefusal bytes (Refused l q) → (k ≡ l) × (p ≡ q)

-- the bytes are refused for this fault at this place and for no other
pub record IsOnlyRefusal (bytes : List ℕ) (k : Kind) (p : Place) : Type 0 where
  pub refused : IsRefusal bytes (Refused k p)
  pub only : (l : Kind) (q : Place) → IsRefusal bytes (Refused l q) → (l ≡ k) × (q ≡ p)

-- every list of bytes spells a junction, or is refused for one fault at one place
abbrev pub TotalityLaw : Type 0
TotalityLaw = (bytes : List ℕ) → ((j : JunctionView) × Spells bytes j) ⊎ ((k : Kind) × (p : Place) × IsOnlyRefusal bytes k p)
