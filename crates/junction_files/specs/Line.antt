-- The line that is printed for a refused file.
use Rattle.std.specs.Prelude.{codes, ℕ, List, ◌++◌, decimal}
use Rattle.junction_files.specs.Document.{word_of}
use Rattle.junction_files.specs.FaultOrder.{kind_number}
use Rattle.junction_files.specs.declared.faults.Kind.{Kind}
use Rattle.junction_files.specs.declared.faults.Kind.TheVariants as kind
use Rattle.junction_files.specs.declared.faults.Part.{Part}
use Rattle.junction_files.specs.declared.faults.Part.TheVariants as part
use Rattle.junction_files.specs.declared.faults.Place.{Place}

abbrev pub kind_word : Kind → List ℕ
kind_word kind.NotToml = codes "not_toml"
kind_word kind.Version = codes "version"
kind_word kind.Shape = codes "shape"
kind_word kind.Count = codes "count"
kind_word kind.Range = codes "range"
kind_word kind.Name = codes "name"
kind_word kind.Unknown = codes "unknown"
kind_word kind.SelfConflict = codes "self_conflict"
kind_word kind.Twice = codes "twice"
kind_word kind.Lonely = codes "lonely"
kind_word kind.ShortIntergreen = codes "short_intergreen"
kind_word kind.EndGain = codes "end_gain"
kind_word kind.NoEffective = codes "no_effective"
kind_word kind.NoFlow = codes "no_flow"
kind_word kind.MaxGreen = codes "max_green"
kind_word kind.SelfLink = codes "self_link"
kind_word kind.LinkTwice = codes "link_twice"

abbrev pub part_word : Part → List ℕ
part_word part.Top = codes "top"
part_word part.Group = codes "group"
part_word part.Lane = codes "lane"
part_word part.Conflict = codes "conflict"
part_word part.Link = codes "link"

-- the number and the word of a kind
abbrev pub kind_text : Kind → List ℕ
kind_text kind = decimal (kind_number kind) ++ (codes " " ++ kind_word kind)

-- the part, the index and the key of a place
abbrev pub place_text : Place → List ℕ
place_text place = part_word place.part ++ (codes " " ++ (decimal place.index ++ (codes " " ++ word_of place.key)))

abbrev pub fault_line_of : Kind → Place → List ℕ
fault_line_of kind place = codes "bad junction " ++ (kind_text kind ++ (codes " " ++ (place_text place ++ codes "\n")))
