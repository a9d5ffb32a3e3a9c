-- The document that a junction is printed as.
use Rattle.std.specs.Prelude.{ℕ, pos, List, [], ◌∷◌, Bool, true, false, nat_lt, ◌||◌, if◌then◌else◌, map, unwrap_or, slice_get}
use Rattle.std.specs.List.{list_any}
use Rattle.std.specs.Option.{option_map_or}
use Rattle.std.specs.Ordering.{nat_cmp, match_ordering}
use Rattle.std.specs.Cmp.Lexicographic.{slice_cmp}
use Rattle.toml.specs.Data.{Data, string, integer, array, table, Members, no_members, member}
use Rattle.toml.specs.View.{items_of}
use Rattle.conflict_matrix.specs.Matrix.{Matrix, intergreen_of}
use Rattle.conflict_matrix.specs.Pairs.{pairs_of}
use Rattle.conflict_matrix.specs.declared.link.Link.{Link}
use Rattle.flow_model.specs.declared.lane.Lane.{Lane}
use Rattle.junction_model.specs.declared.group.Group.{Group}
use Rattle.junction_model.specs.Junction.{JunctionView}
use Rattle.junction_files.specs.Document.{word_of}
use Rattle.junction_files.specs.declared.document.Version.{Version}
use Rattle.junction_files.specs.declared.document.Version.TheVariants.{First, Second}
use Rattle.junction_files.specs.declared.faults.Key.{Key}
use Rattle.junction_files.specs.declared.faults.Key.TheVariants as key

-- the members with one more, in the order of their keys
abbrev pub insert_member : List ℕ → Data → Members → Members
insert_member k d no_members = member k d no_members
insert_member k d (member l e ms) = match_ordering (slice_cmp nat_cmp k l) (member k d (member l e ms)) (member l d ms) (member l e (insert_member k d ms))

abbrev pub with_value : Key → Data → Members → Members
with_value k d ms = insert_member (word_of k) d ms

abbrev pub with_text : Key → List ℕ → Members → Members
with_text k text ms = with_value k (string text) ms

abbrev pub with_number : Key → ℕ → Members → Members
with_number k n ms = with_value k (integer (pos n)) ms

-- a list of tables
abbrev pub tables : {X : Type 0} → (X → Members) → List X → List Data
tables members xs = map (λ x. table (members x)) xs

abbrev pub with_tables : Key → List Data → Members → Members
with_tables k ds ms = with_value k (array (items_of ds)) ms

-- the same, unless it is empty
abbrev pub with_some_tables : Key → List Data → Members → Members
with_some_tables k [] ms = ms
with_some_tables k (d ∷ ds) ms = with_tables k (d ∷ ds) ms

abbrev pub label_at : List Group → ℕ → List ℕ
label_at groups i = option_map_or (λ (group : Group). group.label) (slice_get groups i) []

-- the intergreen of a conflicting pair
abbrev pub seconds_between : Matrix → ℕ → ℕ → ℕ
seconds_between conflicts i j = unwrap_or (intergreen_of conflicts i j) 0

abbrev pub first_group_members : Group → Members
first_group_members group =
    with_number key.EndGain group.times.end_gain
    (with_number key.StartLost group.times.start_lost
    (with_number key.RedAmber group.times.red_amber
    (with_number key.Amber group.times.amber
    (with_number key.MinGreen group.times.min_green
    (with_text key.Name group.label no_members)))))

-- in the second version each group gives its maximum, even where it is 300
abbrev pub group_members : Version → Group → Members
group_members First group = first_group_members group
group_members Second group = with_number key.MaxGreen group.times.max_green (first_group_members group)

-- a lane's limit is written even where it is 900
abbrev pub lane_members : List Group → Lane → Members
lane_members groups lane =
    with_number key.Limit lane.limit
    (with_number key.Saturation lane.saturation
    (with_number key.Arrival lane.arrival
    (with_text key.Group (label_at groups lane.group)
    (with_text key.Name lane.label no_members))))

abbrev pub conflict_members : List Group → Matrix → ℕ × ℕ → Members
conflict_members groups conflicts pair =
    with_number key.BToA (seconds_between conflicts pair.1 pair.0)
    (with_number key.AToB (seconds_between conflicts pair.0 pair.1)
    (with_text key.B (label_at groups pair.1)
    (with_text key.A (label_at groups pair.0) no_members)))

-- the conflicts by the number of their pair
abbrev pub conflict_tables : List Group → Matrix → List Data
conflict_tables groups conflicts = tables (conflict_members groups conflicts) (pairs_of conflicts)

abbrev pub link_members : List Group → Link → Members
link_members groups link =
    with_number key.After link.after
    (with_text key.Follower (label_at groups link.follower)
    (with_text key.Leader (label_at groups link.leader) no_members))

-- the maximum binds some plan
abbrev pub is_bound : Group → Bool
is_bound group = nat_lt group.times.max_green 300

abbrev pub has_elements : {X : Type 0} → List X → Bool
has_elements [] = false
has_elements (x ∷ xs) = true

-- the second version where some maximum is below 300 or there is a link
abbrev pub printed_version : JunctionView → Version
printed_version junction = (if list_any is_bound junction.groups || has_elements junction.conflicts.links then Second else First)

abbrev pub version_number : Version → ℕ
version_number First = 1
version_number Second = 2

-- all but the lists
abbrev pub head_members : Version → JunctionView → Members
head_members version junction =
    with_number key.GreatestCycle junction.greatest_cycle
    (with_number key.LeastCycle junction.least_cycle
    (with_text key.Name junction.title
    (with_number key.Version (version_number version) no_members)))

-- all but the links; groups and lanes in their order
abbrev pub list_members : Version → JunctionView → Members
list_members version junction =
    with_tables key.Conflict (conflict_tables junction.groups junction.conflicts)
    (with_tables key.Lane (tables (lane_members junction.groups) junction.lanes)
    (with_tables key.Group (tables (group_members version) junction.groups)
    (head_members version junction)))

-- links in their order, where there are some
abbrev pub file_members : JunctionView → Members
file_members junction =
    with_some_tables key.Link (tables (link_members junction.groups) junction.conflicts.links) (list_members (printed_version junction) junction)
