-- Which faults stand in a document: at which key of which element a rule is broken.
use Rattle.std.specs.Prelude.{ℕ, ℤ, pos, List, length, take, map, Option, None, Some, ◌≡◌, ◌-◌, ◌≤ℤ◌, ◌<ℤ◌, ◌+ℤ◌, ◌⊎◌, IsSome, IsSomeAnd, All, Any, Contains}
use Rattle.toml.specs.Data.{Data, as_str, as_integer, as_array, as_table}
use Rattle.sig_base.specs.Text.{IsBetween, IsLabel, IsTitle}
use Rattle.junction_files.specs.Document.{word_of, part_keys, words_in, value_in, text_in, whole_in, list_in, groups_in, lanes_in, conflicts_in, links_in, version_of, element_at}
use Rattle.junction_files.specs.Rules.{sort_of, count_of, range_of}
use Rattle.junction_files.specs.declared.document.Version.{Version}
use Rattle.junction_files.specs.declared.faults.Kind.{Kind}
use Rattle.junction_files.specs.declared.faults.Kind.TheVariants as kind
use Rattle.junction_files.specs.declared.faults.Part.{Part}
use Rattle.junction_files.specs.declared.faults.Part.TheVariants as part
use Rattle.junction_files.specs.declared.faults.Key.{Key}
use Rattle.junction_files.specs.declared.faults.Key.TheVariants as key
use Rattle.junction_files.specs.declared.faults.shape.Sort.{Sort}
use Rattle.junction_files.specs.declared.faults.shape.Sort.TheVariants.{Text, Whole, WholeOrMissing, Tables, TablesOrMissing}

pub record Fault : Type 0 where
  pub kind : Kind
  pub part : Part
  pub index : ℕ
  pub key : Key

abbrev pub IsNamed : List ℕ → Data → Type 0
IsNamed name d = text_in d key.Name ≡ Some name

-- the whole number 1 or 2
abbrev pub IsVersion : Option ℤ → Type 0
IsVersion version = (version ≡ Some (pos 1)) ⊎ (version ≡ Some (pos 2))

abbrev pub VersionFault : Part → Data → Key → Type 0
VersionFault part.Top document key.Version = ¬ IsVersion (whole_in document key.Version)
VersionFault _ _ _ = ⊥

-- what stands at a key, if anything, has another kind than the key asks for
abbrev pub IsMisshaped : Sort → Option Data → Type 0
IsMisshaped Text value = ¬ IsSomeAnd value (λ d. IsSome (as_str d))
IsMisshaped Whole value = ¬ IsSomeAnd value (λ d. IsSome (as_integer d))
IsMisshaped WholeOrMissing value = IsSomeAnd value (λ d. as_integer d ≡ None)
IsMisshaped Tables value = ¬ IsSomeAnd value (λ d. IsSome (as_array d))
IsMisshaped TablesOrMissing value = IsSomeAnd value (λ d. as_array d ≡ None)

-- a word that isn't a key of the part in the version
abbrev pub IsOtherWord : Part → Version → List ℕ → Type 0
IsOtherWord p v word = ¬ Contains (map word_of (part_keys p v)) word

-- what stands at a listed key has another kind
abbrev pub HasOtherKind : Version → Part → Data → Key → Type 0
HasOtherKind v p d k = IsSomeAnd (sort_of p k v) (λ sort. IsMisshaped sort (value_in d k))

-- an element isn't a table, or holds a key that isn't listed, or a key's value has another kind
abbrev pub ShapeFault : Version → Part → Data → Key → Type 0
ShapeFault v p d key.Whole = as_table d ≡ None
ShapeFault v p d key.Other = IsSomeAnd (as_table d) (λ ms. Any (IsOtherWord p v) (words_in ms))
ShapeFault v p d k = IsSome (as_table d) × HasOtherKind v p d k

-- a list has too few or too many elements
abbrev pub CountFault : Part → Data → Key → Type 0
CountFault part.Top document k = IsSomeAnd (count_of k) (λ limits. IsSomeAnd (list_in document k) (λ ds. ¬ IsBetween limits.0 limits.1 (length ds)))
CountFault _ _ _ = ⊥

-- a whole number is out of its range
abbrev pub RangeFault : Data → Part → Data → Key → Type 0
RangeFault document p d k = IsSomeAnd (range_of document p k) (λ range. IsSomeAnd (whole_in d k) (λ z. (z <ℤ range.0) ⊎ (range.1 <ℤ z)))

-- an element before number n has the name
abbrev pub IsNamedEarlier : List Data → ℕ → List ℕ → Type 0
IsNamedEarlier ds n name = Any (IsNamed name) (take (n - 1) ds)

-- the title breaks its rule
abbrev pub IsWrongTitle : Data → Type 0
IsWrongTitle d = IsSomeAnd (text_in d key.Name) (λ name. ¬ IsTitle name)

-- a label breaks its rule or equals an earlier one of the list
abbrev pub IsWrongLabel : List Data → ℕ → Data → Type 0
IsWrongLabel ds n d = IsSomeAnd (text_in d key.Name) (λ name. (¬ IsLabel name) ⊎ IsNamedEarlier ds n name)

-- a name breaks its rule or equals an earlier one of the same part
abbrev pub NameFault : Data → Part → ℕ → Data → Key → Type 0
NameFault document part.Top n d key.Name = IsWrongTitle d
NameFault document part.Group n d key.Name = IsWrongLabel (groups_in document) n d
NameFault document part.Lane n d key.Name = IsWrongLabel (lanes_in document) n d
NameFault _ _ _ _ _ = ⊥

-- a text that isn't the name of any group
abbrev pub IsUnknown : Data → Option (List ℕ) → Type 0
IsUnknown document name = IsSomeAnd name (λ name. ¬ Any (IsNamed name) (groups_in document))

abbrev pub UnknownFault : Data → Part → Data → Key → Type 0
UnknownFault document part.Lane d key.Group = IsUnknown document (text_in d key.Group)
UnknownFault document part.Conflict d key.A = IsUnknown document (text_in d key.A)
UnknownFault document part.Conflict d key.B = IsUnknown document (text_in d key.B)
UnknownFault document part.Link d key.Leader = IsUnknown document (text_in d key.Leader)
UnknownFault document part.Link d key.Follower = IsUnknown document (text_in d key.Follower)
UnknownFault _ _ _ _ = ⊥

-- one group is named at both keys
abbrev pub NamesOneGroup : Key → Key → Data → Type 0
NamesOneGroup one other d = IsSomeAnd (text_in d one) (λ name. text_in d other ≡ Some name)

-- a conflict of a group with itself
abbrev pub SelfConflictFault : Part → Data → Key → Type 0
SelfConflictFault part.Conflict d key.Whole = NamesOneGroup key.A key.B d
SelfConflictFault _ _ _ = ⊥

-- these two groups are named at the keys, in either sense
abbrev pub NamesGroups : Key → Key → List ℕ → List ℕ → Data → Type 0
NamesGroups one other a b d =
    ((text_in d one ≡ Some a) × (text_in d other ≡ Some b)) ⊎ ((text_in d one ≡ Some b) × (text_in d other ≡ Some a))

-- the groups that are named at the keys stand in an earlier element
abbrev pub IsRepeated : Key → Key → List Data → Data → Type 0
IsRepeated one other earlier d = IsSomeAnd (text_in d one) (λ a. IsSomeAnd (text_in d other) (λ b. Any (NamesGroups one other a b) earlier))

-- a conflict whose groups stand in an earlier conflict
abbrev pub TwiceFault : Data → Part → ℕ → Data → Key → Type 0
TwiceFault document part.Conflict n d key.Whole = IsRepeated key.A key.B (take (n - 1) (conflicts_in document)) d
TwiceFault _ _ _ _ _ = ⊥

abbrev pub Involves : List ℕ → Data → Type 0
Involves name d = (text_in d key.A ≡ Some name) ⊎ (text_in d key.B ≡ Some name)

-- a group that stands in no conflict
abbrev pub LonelyFault : Data → Part → Data → Key → Type 0
LonelyFault document part.Group d key.Whole = IsSomeAnd (text_in d key.Name) (λ name. ¬ Any (Involves name) (conflicts_in document))
LonelyFault _ _ _ _ = ⊥

-- the whole number at a key is above w
abbrev pub IsAbove : Data → Key → ℤ → Type 0
IsAbove d k w = IsSomeAnd (whole_in d k) (λ z. w <ℤ z)

-- a group of the name has at this key more than the number
abbrev pub SomeHasMore : Data → List ℕ → Key → ℤ → Type 0
SomeHasMore document name k w = Any (λ group. IsNamed name group × IsAbove group k w) (groups_in document)

-- the group of a name, where one is given, has at this key more than the number
abbrev pub HasMore : Data → Option (List ℕ) → Key → ℤ → Type 0
HasMore document name k w = IsSomeAnd name (λ name. SomeHasMore document name k w)

-- an intergreen below the amber of the group that it leaves or below the red-amber of the group that it goes to
abbrev pub IsTooShort : Data → Option (List ℕ) → Option (List ℕ) → Option ℤ → Type 0
IsTooShort document from to intergreen =
    IsSomeAnd intergreen (λ w. HasMore document from key.Amber w ⊎ HasMore document to key.RedAmber w)

-- the intergreen at key k of a conflict, from its group at one key to its group at another
abbrev pub IsShort : Data → Data → Key → Key → Key → Type 0
IsShort document d from to k = IsTooShort document (text_in d from) (text_in d to) (whole_in d k)

abbrev pub ShortIntergreenFault : Data → Part → Data → Key → Type 0
ShortIntergreenFault document part.Conflict d key.AToB = IsShort document d key.A key.B key.AToB
ShortIntergreenFault document part.Conflict d key.BToA = IsShort document d key.B key.A key.BToA
ShortIntergreenFault _ _ _ _ = ⊥

-- an end gain above the amber
abbrev pub EndGainFault : Part → Data → Key → Type 0
EndGainFault part.Group d key.EndGain = IsSomeAnd (whole_in d key.EndGain) (λ gain. IsSomeAnd (whole_in d key.Amber) (λ amber. amber <ℤ gain))
EndGainFault _ _ _ = ⊥

-- no effective second at the minimum green
abbrev pub NoEffectiveFault : Part → Data → Key → Type 0
NoEffectiveFault part.Group d key.StartLost = IsSomeAnd (whole_in d key.StartLost) (λ lost. IsSomeAnd (whole_in d key.EndGain) (λ gain.
    IsSomeAnd (whole_in d key.MinGreen) (λ green. (green +ℤ gain) ≤ℤ lost)))
NoEffectiveFault _ _ _ = ⊥

-- nothing arrives on any lane
abbrev pub NoFlowFault : Part → Data → Key → Type 0
NoFlowFault part.Top document key.Lane = All (λ lane. whole_in lane key.Arrival ≡ Some (pos 0)) (lanes_in document)
NoFlowFault _ _ _ = ⊥

-- a maximum green below the minimum
abbrev pub MaxGreenFault : Part → Data → Key → Type 0
MaxGreenFault part.Group d key.MaxGreen = IsSomeAnd (whole_in d key.MaxGreen) (λ most. IsSomeAnd (whole_in d key.MinGreen) (λ least. most <ℤ least))
MaxGreenFault _ _ _ = ⊥

-- a link of a group with itself
abbrev pub SelfLinkFault : Part → Data → Key → Type 0
SelfLinkFault part.Link d key.Whole = NamesOneGroup key.Leader key.Follower d
SelfLinkFault _ _ _ = ⊥

-- a link whose groups stand in an earlier link
abbrev pub LinkTwiceFault : Data → Part → ℕ → Data → Key → Type 0
LinkTwiceFault document part.Link n d key.Whole = IsRepeated key.Leader key.Follower (take (n - 1) (links_in document)) d
LinkTwiceFault _ _ _ _ _ = ⊥

-- a rule of this kind is broken at a key of an element d, which is number n of its part
abbrev pub IsWrong : Data → Kind → Part → ℕ → Data → Key → Type 0
IsWrong document kind.NotToml p n d k = ⊥
IsWrong document kind.Version p n d k = VersionFault p d k
IsWrong document kind.Shape p n d k = ShapeFault (version_of document) p d k
IsWrong document kind.Count p n d k = CountFault p d k
IsWrong document kind.Range p n d k = RangeFault document p d k
IsWrong document kind.Name p n d k = NameFault document p n d k
IsWrong document kind.Unknown p n d k = UnknownFault document p d k
IsWrong document kind.SelfConflict p n d k = SelfConflictFault p d k
IsWrong document kind.Twice p n d k = TwiceFault document p n d k
IsWrong document kind.Lonely p n d k = LonelyFault document p d k
IsWrong document kind.ShortIntergreen p n d k = ShortIntergreenFault document p d k
IsWrong document kind.EndGain p n d k = EndGainFault p d k
IsWrong document kind.NoEffective p n d k = NoEffectiveFault p d k
IsWrong document kind.NoFlow p n d k = NoFlowFault p d k
IsWrong document kind.MaxGreen p n d k = MaxGreenFault p d k
IsWrong document kind.SelfLink p n d k = SelfLinkFault p d k
IsWrong document kind.LinkTwice p n d k = LinkTwiceFault document p n d k

-- a fault stands in a document
abbrev pub Stands : Data → Fault → Type 0
Stands document f = IsSomeAnd (element_at document f.part f.index) (λ d. IsWrong document f.kind f.part f.index d f.key)
