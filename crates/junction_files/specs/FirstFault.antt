-- The first key, the first spot of a part, the first fault of a kind and the first of all.
use Rattle.std.specs.Prelude.{ℕ, List, [], ◌∷◌, Option, ◌≡◌, ◌≤◌, MatchOption}
use Rattle.toml.specs.Data.{Data}
use Rattle.junction_files.specs.Document.{elements_in, counted_from_one, element_at}
use Rattle.junction_files.specs.Faults.{Fault, Stands}
use Rattle.junction_files.specs.FaultOrder.{key_number, FaultOrder}
use Rattle.junction_files.specs.declared.faults.spot.Spot.{Spot}
use Rattle.junction_files.specs.declared.faults.Kind.{Kind}
use Rattle.junction_files.specs.declared.faults.Kind.TheVariants as kind
use Rattle.junction_files.specs.declared.faults.Part.{Part}
use Rattle.junction_files.specs.declared.faults.Part.TheVariants as part
use Rattle.junction_files.specs.declared.faults.Key.{Key}
use Rattle.junction_files.specs.declared.faults.Key.TheVariants as key

-- each kind, part and key at its number
abbrev pub all_kinds : List Kind
all_kinds = kind.NotToml ∷ kind.Version ∷ kind.Shape ∷ kind.Count ∷ kind.Range ∷ kind.Name ∷ kind.Unknown ∷ kind.SelfConflict ∷ kind.Twice
    ∷ kind.Lonely ∷ kind.ShortIntergreen ∷ kind.EndGain ∷ kind.NoEffective ∷ kind.NoFlow ∷ kind.MaxGreen ∷ kind.SelfLink ∷ kind.LinkTwice ∷ []

abbrev pub all_parts : List Part
all_parts = part.Top ∷ part.Group ∷ part.Lane ∷ part.Conflict ∷ part.Link ∷ []

abbrev pub all_keys : List Key
all_keys = key.Whole ∷ key.Version ∷ key.Name ∷ key.LeastCycle ∷ key.GreatestCycle ∷ key.Group ∷ key.Lane ∷ key.Conflict ∷ key.Link
    ∷ key.MinGreen ∷ key.Amber ∷ key.RedAmber ∷ key.StartLost ∷ key.EndGain ∷ key.MaxGreen ∷ key.Arrival ∷ key.Saturation ∷ key.Limit
    ∷ key.A ∷ key.B ∷ key.AToB ∷ key.BToA ∷ key.Leader ∷ key.Follower ∷ key.After ∷ key.Other ∷ []

-- the fault of a kind at a spot
abbrev pub fault_at : Kind → Spot → Fault
fault_at k s = record { kind = k; part = s.part; index = s.index; key = s.key }

-- no key breaks the rule
abbrev pub NoKey : (Key → Type 0) → Type 0
NoKey wrong = (k : Key) → ¬ wrong k

-- the first key that breaks the rule
pub record IsFirstKey (broken : Key → Type 0) (k : Key) : Type 0 where
  pub stands : broken k
  pub first : (l : Key) → broken l → key_number k ≤ key_number l

-- the elements of the part are those of the list at the key
abbrev pub IsListOf : Data → Part → Key → Type 0
IsListOf document p k = (n : ℕ) → element_at document p n ≡ counted_from_one (elements_in document k) n

-- no fault of the kind stands in the part
abbrev pub NoneIn : Data → Kind → Part → Type 0
NoneIn document k p = (f : Fault) → f.kind ≡ k → f.part ≡ p → ¬ Stands document f

-- the least of the faults of the kind in the part
pub record IsFirstIn (document : Data) (k : Kind) (p : Part) (s : Spot) : Type 0 where
  pub within : s.part ≡ p
  pub stands : Stands document (fault_at k s)
  pub first : (g : Fault) → g.kind ≡ k → g.part ≡ p → Stands document g → FaultOrder (fault_at k s) g

-- no fault of the kind stands
abbrev pub NoneOf : Data → Kind → Type 0
NoneOf document k = (f : Fault) → f.kind ≡ k → ¬ Stands document f

-- the least of the faults of its kind
pub record IsFirstOf (document : Data) (f : Fault) : Type 0 where
  pub stands : Stands document f
  pub first : (g : Fault) → g.kind ≡ f.kind → Stands document g → FaultOrder f g

-- the least of all faults that stand
pub record IsFirstFault (document : Data) (f : Fault) : Type 0 where
  pub stands : Stands document f
  pub first : (g : Fault) → Stands document g → FaultOrder f g

-- what a search for the first one answers
abbrev pub FirstKeyOrNone : (Key → Type 0) → Option Key → Type 0
FirstKeyOrNone broken answer = MatchOption answer (NoKey broken) (IsFirstKey broken)

abbrev pub FirstInOrNone : Data → Kind → Part → Option Spot → Type 0
FirstInOrNone document k p answer = MatchOption answer (NoneIn document k p) (IsFirstIn document k p)

abbrev pub FirstOfOrNone : Data → Kind → Option Spot → Type 0
FirstOfOrNone document k answer = MatchOption answer (NoneOf document k) (λ s. IsFirstOf document (fault_at k s))

abbrev pub FirstFaultOrNone : Data → Option (Kind × Spot) → Type 0
FirstFaultOrNone document answer = MatchOption answer ((f : Fault) → ¬ Stands document f) (λ found. IsFirstFault document (fault_at found.0 found.1))
