-- Documents in which no fault stands, and what that says of their elements.
use Rattle.std.specs.Prelude.{ℕ, pos, List, Some, ◌≡◌, ◌^◌, ◌<◌, ◌≤◌, IfSome, slice_get}
use Rattle.toml.specs.Data.{Data}
use Rattle.sig_base.specs.Text.{IsLabel, IsTitle}
use Rattle.junction_files.specs.Document.{text_in, whole_in, groups_in}
use Rattle.junction_files.specs.Faults.{Fault, Stands}
use Rattle.junction_files.specs.Rules.{range_of}
use Rattle.junction_files.specs.Meaning.{natural, number_or, number_of, text_of, group_number}
use Rattle.junction_files.specs.declared.faults.Part.{Part}
use Rattle.junction_files.specs.declared.faults.Part.TheVariants as part
use Rattle.junction_files.specs.declared.faults.Key.{Key}
use Rattle.junction_files.specs.declared.faults.Key.TheVariants as key

pub record IsFaultless (document : Data) : Type 0 where
  pub none : (f : Fault) → ¬ Stands document f

-- the whole number at the key, if there is one, is the number that is read, and has 32 bits
pub record IsReadable (default : ℕ) (d : Data) (k : Key) : Type 0 where
  pub whole : IfSome (whole_in d k) (λ z. z ≡ pos (number_or default d k))
  pub small : number_or default d k < 2 ^ 32

-- a whole number of the range stands at the key
pub record HasNumber (d : Data) (k : Key) (low high : ℕ) : Type 0 where
  pub whole : whole_in d k ≡ Some (pos (number_of d k))
  pub least : low ≤ number_of d k
  pub greatest : number_of d k ≤ high

-- the same with the range that the key of a part asks for
abbrev pub HasNumberOf : Part → Data → Key → Type 0
HasNumberOf p d k = IfSome (range_of d p k) (λ range. HasNumber d k (natural range.0) (natural range.1))

-- the number at the key, or the default, is in the range
pub record HasNumberOr (default : ℕ) (d : Data) (k : Key) (low high : ℕ) : Type 0 where
  pub whole : IfSome (whole_in d k) (λ z. z ≡ pos (number_or default d k))
  pub least : low ≤ number_or default d k
  pub greatest : number_or default d k ≤ high

-- a text that keeps the rule of titles
pub record HasTitle (d : Data) : Type 0 where
  pub text : text_in d key.Name ≡ Some (text_of d key.Name)
  pub title : IsTitle (text_of d key.Name)

-- a text that keeps the rule of labels
pub record HasLabel (d : Data) : Type 0 where
  pub text : text_in d key.Name ≡ Some (text_of d key.Name)
  pub label : IsLabel (text_of d key.Name)

pub record HasTimes (d : Data) : Type 0 where
  pub min_green : HasNumberOf part.Group d key.MinGreen
  pub amber : HasNumberOf part.Group d key.Amber
  pub red_amber : HasNumberOf part.Group d key.RedAmber
  pub start_lost : HasNumberOf part.Group d key.StartLost
  pub end_gain : HasNumberOf part.Group d key.EndGain
  pub max_green : HasNumberOr 300 d key.MaxGreen 1 300

pub record IsGroupElement (d : Data) : Type 0 where
  pub label : HasLabel d
  pub times : HasTimes d

-- a group has the name, at the number of the name
pub record IsGroupName (document : Data) (name : List ℕ) : Type 0 where
  pub group : Data
  pub found : slice_get (groups_in document) (group_number document name) ≡ Some group
  pub named : text_in group key.Name ≡ Some name
  pub small : group_number document name < 16

-- the name of a group stands at the key
pub record HasReference (document d : Data) (k : Key) : Type 0 where
  pub text : text_in d k ≡ Some (text_of d k)
  pub group : IsGroupName document (text_of d k)

pub record IsLaneElement (document d : Data) : Type 0 where
  pub label : HasLabel d
  pub group : HasReference document d key.Group
  pub arrival : HasNumberOf part.Lane d key.Arrival
  pub saturation : HasNumberOf part.Lane d key.Saturation
  pub limit : HasNumberOr 900 d key.Limit 1 1000

pub record IsConflictElement (document d : Data) : Type 0 where
  pub a : HasReference document d key.A
  pub b : HasReference document d key.B
  pub a_to_b : HasNumberOf part.Conflict d key.AToB
  pub b_to_a : HasNumberOf part.Conflict d key.BToA

pub record IsLinkElement (document d : Data) : Type 0 where
  pub leader : HasReference document d key.Leader
  pub follower : HasReference document d key.Follower
  pub after : HasNumberOf part.Link d key.After
