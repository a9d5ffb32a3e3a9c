-- The keys of a junction file, and what stands at them in a TOML document.
use Rattle.std.specs.Prelude.{codes, ℕ, ℤ, pos, List, [], ◌∷◌, ◌==◌, ◌-◌, Option, None, Some, if◌then◌else◌, option_and_then, option_map, unwrap_or, slice_get}
use Rattle.std.specs.Option.{option_map_or}
use Rattle.std.specs.Ordering.{int_eq}
use Rattle.toml.specs.Data.{Data, Items, no_items, item, Members, no_members, member, get_member, as_str, as_integer, as_array, as_table}
use Rattle.junction_files.specs.declared.document.Version.{Version}
use Rattle.junction_files.specs.declared.document.Version.TheVariants.{First, Second}
use Rattle.junction_files.specs.declared.faults.Part.{Part}
use Rattle.junction_files.specs.declared.faults.Part.TheVariants as part
use Rattle.junction_files.specs.declared.faults.Key.{Key}
use Rattle.junction_files.specs.declared.faults.Key.TheVariants as key

-- a key as it is written; the words of no key are those of printed places
abbrev pub word_of : Key → List ℕ
word_of key.Whole = codes "whole"
word_of key.Other = codes "other"
word_of key.Version = codes "version"
word_of key.Name = codes "name"
word_of key.LeastCycle = codes "least_cycle"
word_of key.GreatestCycle = codes "greatest_cycle"
word_of key.Group = codes "group"
word_of key.Lane = codes "lane"
word_of key.Conflict = codes "conflict"
word_of key.Link = codes "link"
word_of key.MinGreen = codes "min_green"
word_of key.Amber = codes "amber"
word_of key.RedAmber = codes "red_amber"
word_of key.StartLost = codes "start_lost"
word_of key.EndGain = codes "end_gain"
word_of key.MaxGreen = codes "max_green"
word_of key.Arrival = codes "arrival"
word_of key.Saturation = codes "saturation"
word_of key.Limit = codes "limit"
word_of key.A = codes "a"
word_of key.B = codes "b"
word_of key.AToB = codes "a_to_b"
word_of key.BToA = codes "b_to_a"
word_of key.Leader = codes "leader"
word_of key.Follower = codes "follower"
word_of key.After = codes "after"

-- the keys that a table of a part may hold in a version
abbrev pub part_keys : Part → Version → List Key
part_keys part.Top First = key.Version ∷ key.Name ∷ key.LeastCycle ∷ key.GreatestCycle ∷ key.Group ∷ key.Lane ∷ key.Conflict ∷ []
part_keys part.Top Second = key.Version ∷ key.Name ∷ key.LeastCycle ∷ key.GreatestCycle ∷ key.Group ∷ key.Lane ∷ key.Conflict ∷ key.Link ∷ []
part_keys part.Group First = key.Name ∷ key.MinGreen ∷ key.Amber ∷ key.RedAmber ∷ key.StartLost ∷ key.EndGain ∷ []
part_keys part.Group Second = key.Name ∷ key.MinGreen ∷ key.Amber ∷ key.RedAmber ∷ key.StartLost ∷ key.EndGain ∷ key.MaxGreen ∷ []
part_keys part.Lane _ = key.Name ∷ key.Group ∷ key.Arrival ∷ key.Saturation ∷ key.Limit ∷ []
part_keys part.Conflict _ = key.A ∷ key.B ∷ key.AToB ∷ key.BToA ∷ []
part_keys part.Link _ = key.Leader ∷ key.Follower ∷ key.After ∷ []

abbrev pub elements : Items → List Data
elements no_items = []
elements (item d ds) = d ∷ elements ds

-- the keys of a table, as they are written
abbrev pub words_in : Members → List (List ℕ)
words_in no_members = []
words_in (member word d ms) = word ∷ words_in ms

-- what stands at a key of a table; none where there is no table
abbrev pub value_in : Data → Key → Option Data
value_in d k = option_and_then (get_member (word_of k)) (as_table d)

abbrev pub text_in : Data → Key → Option (List ℕ)
text_in d k = option_and_then as_str (value_in d k)

abbrev pub whole_in : Data → Key → Option ℤ
whole_in d k = option_and_then as_integer (value_in d k)

-- the second version where the number is 2
abbrev pub numbered_version : ℤ → Version
numbered_version number = (if int_eq number (pos 2) then Second else First)

abbrev pub version_of : Data → Version
version_of document = option_map_or numbered_version (whole_in document key.Version) First

abbrev pub array_in : Data → Key → Option Items
array_in d k = option_and_then as_array (value_in d k)

abbrev pub list_in : Data → Key → Option (List Data)
list_in d k = option_map elements (array_in d k)

abbrev pub elements_in : Data → Key → List Data
elements_in d k = unwrap_or (list_in d k) []

abbrev pub groups_in : Data → List Data
groups_in document = elements_in document key.Group

abbrev pub lanes_in : Data → List Data
lanes_in document = elements_in document key.Lane

abbrev pub conflicts_in : Data → List Data
conflicts_in document = elements_in document key.Conflict

abbrev pub links_in : Data → List Data
links_in document = elements_in document key.Link

abbrev pub counted_from_one : List Data → ℕ → Option Data
counted_from_one ds n = (if n == 0 then None else slice_get ds (n - 1))

-- an element of a part: the document is element 0 of the top, the others count from 1
abbrev pub element_at : Data → Part → ℕ → Option Data
element_at document part.Top n = (if n == 0 then Some document else None)
element_at document part.Group n = counted_from_one (groups_in document) n
element_at document part.Lane n = counted_from_one (lanes_in document) n
element_at document part.Conflict n = counted_from_one (conflicts_in document) n
element_at document part.Link n = counted_from_one (links_in document) n
