-- The junction that a document without a fault spells.
use Rattle.std.specs.Prelude.{ℕ, ℤ, Bool, pos, negsuc, List, [], map, length, Some, ◌≡◌, unwrap_or, position}
use Rattle.std.specs.Option.{option_map_or}
use Rattle.std.specs.Str.{bytes_eq}
use Rattle.toml.specs.Data.{Data}
use Rattle.sig_base.specs.declared.group_times.GroupTimes.{GroupTimes}
use Rattle.conflict_matrix.specs.declared.entry.Entry.{Entry}
use Rattle.conflict_matrix.specs.declared.link.Link.{Link}
use Rattle.conflict_matrix.specs.Entries.{IsTableOf}
use Rattle.flow_model.specs.declared.lane.Lane.{Lane}
use Rattle.junction_model.specs.declared.group.Group.{Group}
use Rattle.junction_model.specs.Junction.{JunctionView}
use Rattle.junction_files.specs.Document.{text_in, whole_in, groups_in, lanes_in, conflicts_in, links_in}
use Rattle.junction_files.specs.declared.faults.Key.{Key}
use Rattle.junction_files.specs.declared.faults.Key.TheVariants as key

abbrev pub natural : ℤ → ℕ
natural (pos n) = n
natural (negsuc n) = 0

-- the number at a key, or a default where the key is missing
abbrev pub number_or : ℕ → Data → Key → ℕ
number_or default d k = option_map_or natural (whole_in d k) default

abbrev pub number_of : Data → Key → ℕ
number_of d k = number_or 0 d k

abbrev pub text_of : Data → Key → List ℕ
text_of d k = unwrap_or (text_in d k) []

-- a maximum green is 300 where it isn't given
abbrev pub times_of : Data → GroupTimes
times_of d = record {
  min_green = number_of d key.MinGreen;
  amber = number_of d key.Amber;
  red_amber = number_of d key.RedAmber;
  start_lost = number_of d key.StartLost;
  end_gain = number_of d key.EndGain;
  max_green = number_or 300 d key.MaxGreen;
}

abbrev pub group_of : Data → Group
group_of d = record { label = text_of d key.Name; times = times_of d }

abbrev pub has_name : List ℕ → Data → Bool
has_name name d = bytes_eq (text_of d key.Name) name

-- the number of the group with this name, from 0
abbrev pub group_number : Data → List ℕ → ℕ
group_number document name = unwrap_or (position (has_name name) (groups_in document)) 0

-- a lane's limit is 900 per mille where it isn't given
abbrev pub lane_of : Data → Data → Lane
lane_of document d = record {
  label = text_of d key.Name;
  group = group_number document (text_of d key.Group);
  arrival = number_of d key.Arrival;
  saturation = number_of d key.Saturation;
  limit = number_or 900 d key.Limit;
}

abbrev pub entry_of : Data → Data → Entry
entry_of document d = record {
  a = group_number document (text_of d key.A);
  b = group_number document (text_of d key.B);
  a_to_b = number_of d key.AToB;
  b_to_a = number_of d key.BToA;
}

-- the conflicts as entries of their table
abbrev pub entries_in : Data → List Entry
entries_in document = map (entry_of document) (conflicts_in document)

abbrev pub link_of : Data → Data → Link
link_of document d = record {
  leader = group_number document (text_of d key.Leader);
  follower = group_number document (text_of d key.Follower);
  after = number_of d key.After;
}

-- no links where the list is missing
abbrev pub links_of : Data → List Link
links_of document = map (link_of document) (links_in document)

-- groups, lanes and links keep the order of the file; of the conflicts only their table stays
pub record IsJunctionOf (document : Data) (junction : JunctionView) : Type 0 where
  pub title : text_in document key.Name ≡ Some junction.title
  pub least_cycle : whole_in document key.LeastCycle ≡ Some (pos junction.least_cycle)
  pub greatest_cycle : whole_in document key.GreatestCycle ≡ Some (pos junction.greatest_cycle)
  pub groups : junction.groups ≡ map group_of (groups_in document)
  pub lanes : junction.lanes ≡ map (lane_of document) (lanes_in document)
  pub conflicts : IsTableOf (length junction.groups) (entries_in document) junction.conflicts
  pub links : junction.conflicts.links ≡ links_of document
