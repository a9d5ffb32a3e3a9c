-- What the bytes of a junction file spell, or their first fault.
use Rattle.std.specs.Prelude.{ℕ, List, Some, ◌≡◌, ◌-◌, ◌^◌, ◌⊎◌, min, IsUtf8}
use Rattle.toml.specs.Data.{Members, table}
use Rattle.toml.specs.Parse.{parse_document}
use Rattle.junction_model.specs.Junction.{JunctionView}
use Rattle.junction_model.specs.Rules.{IsJunction}
use Rattle.junction_files.specs.Faults.{Fault, Stands}
use Rattle.junction_files.specs.FirstFault.{IsFirstFault}
use Rattle.junction_files.specs.Meaning.{IsJunctionOf}
use Rattle.junction_files.specs.declared.faults.Kind.{Kind}
use Rattle.junction_files.specs.declared.faults.Kind.TheVariants as kind
use Rattle.junction_files.specs.declared.faults.Part.TheVariants as part
use Rattle.junction_files.specs.declared.faults.Key.TheVariants as key
use Rattle.junction_files.specs.declared.faults.Place.{Place}
use Rattle.junction_files.specs.declared.faults.JunctionFault.{JunctionFault}
use Rattle.junction_files.specs.declared.faults.JunctionFault.TheVariants.{Refused, Memory}

-- the bytes are this TOML document
pub record IsDocument (bytes : List ℕ) (document : Members) : Type 0 where
  pub utf8 : IsUtf8 bytes
  pub parsed : parse_document bytes ≡ Some document

-- the bytes spell a junction: they are a document in which no fault stands, that document is the
-- junction's, and the junction keeps all rules
pub record Spells (bytes : List ℕ) (junction : JunctionView) : Type 0 where
  pub document : Members
  pub is_document : IsDocument bytes document
  pub faultless : (f : Fault) → ¬ Stands (table document) f
  pub junction_of : IsJunctionOf (table document) junction
  pub rules : IsJunction junction

-- an index is counted up to the greatest number of 32 bits
abbrev pub place_of : Fault → Place
place_of f = record { part = f.part; index = min f.index (2 ^ 32 - 1); key = f.key }

-- the bytes are no document
pub record AreNoDocument (bytes : List ℕ) (k : Kind) (p : Place) : Type 0 where
  pub not_document : (document : Members) → ¬ IsDocument bytes document
  pub kind : k ≡ kind.NotToml
  pub place : p ≡ record { part = part.Top; index = 0; key = key.Whole }

-- the bytes are a document, and this is its first fault
pub record IsFirstRefused (bytes : List ℕ) (k : Kind) (p : Place) : Type 0 where
  pub document : Members
  pub is_document : IsDocument bytes document
  pub fault : Fault
  pub first : IsFirstFault (table document) fault
  pub kind : k ≡ fault.kind
  pub place : p ≡ place_of fault

abbrev pub IsRefusal : List ℕ → JunctionFault → Type 0
IsRefusal bytes (Refused k p) = AreNoDocument bytes k p ⊎ IsFirstRefused bytes k p
IsRefusal bytes Memory = Unit {0}
