-- The document that a junction is printed as spells this junction.
use Rattle.std.proofs.Common.{ℕ, zero, suc, List, [], ◌∷◌, Some, IsSomeAnd, Any, map, option_map, is_some, length, slice_get, ◌≡◌, ◌<◌, inl, inr, refl, sym, ap, ◌∙◌, arith}
use Rattle.std.proofs.Math.Dec.{eqb-suc-zero}
use Rattle.std.proofs.lemmas.List.{map-id}
use Rattle.std.proofs.lemmas.Option.{slice_get-map, slice_get-get_or}
use Rattle.junction_model.specs.declared.group.Group.{Group}
use Rattle.toml.specs.Data.{Data, table}
use Rattle.conflict_matrix.specs.Matrix.{Matrix, IsMatrix, AreConflicting, intergreen_of}
use Rattle.conflict_matrix.specs.Pairs.{pairs_of}
use Rattle.conflict_matrix.specs.Entries.{Tells, IsTableOf}
use Rattle.conflict_matrix.specs.Links.{IsWithin}
use Rattle.conflict_matrix.specs.declared.entry.Entry.{Entry}
use Rattle.conflict_matrix.specs.declared.link.Link.{Link}
use Rattle.flow_model.specs.declared.lane.Lane.{Lane}
use Rattle.junction_model.specs.Junction.{JunctionView}
use Rattle.junction_model.specs.Rules.{IsGroup, IsLane, IsJunction}
use Rattle.junction_files.specs.Document.{text_in, element_at, groups_in, lanes_in, conflicts_in}
use Rattle.junction_files.specs.Faults.{Fault, Stands, IsWrong}
use Rattle.junction_files.specs.Meaning.{text_of, group_number, group_of, lane_of, entry_of, link_of, links_of, IsJunctionOf}
use Rattle.junction_files.specs.Printing.{label_at, seconds_between, group_members, lane_members, conflict_members, link_members, printed_version, file_members}
use Rattle.junction_files.specs.Reads.{IsDocument, Spells}
use Rattle.junction_files.specs.declared.document.Version.{Version}
use Rattle.junction_files.specs.declared.document.Version.TheVariants.{First, Second}
use Rattle.junction_files.specs.declared.faults.Kind.{Kind}
use Rattle.junction_files.specs.declared.faults.Part.{Part}
use Rattle.junction_files.specs.declared.faults.Key.{Key}
use Rattle.junction_files.proofs.Groups.{number_of_name}
use Rattle.junction_files.proofs.Elements.{origin, any_at, all_at}
use Rattle.conflict_matrix.specs.PairLaws.{IsPair}
use Rattle.conflict_matrix.proofs.PairNumbers.{pair_at, pair_place}
use Rattle.junction_files.proofs.PrintedConflicts.{pair_here, none_at_conflict, intergreen_seconds}
use Rattle.junction_files.proofs.PrintedDocument.{top, text_at, whole_at, document_of, group_list, lane_list, conflict_list, link_list, group_label, table_at, origin_at}
use Rattle.junction_files.proofs.PrintedNames.{group_here, label_here}
use Rattle.junction_files.proofs.PrintedVersion.{first_maximum}
use Rattle.junction_files.proofs.PrintedGroups.{none_at_group}
use Rattle.junction_files.proofs.PrintedLanes.{none_at_lane}
use Rattle.junction_files.proofs.PrintedLinks.{within_groups, none_at_link}
use Rattle.junction_files.proofs.PrintedTop.{none_at_top}
use Rattle.junction_files.specs.declared.faults.Part.TheVariants as part
use Rattle.junction_files.specs.declared.faults.Key.TheVariants as key

none_in : (j : JunctionView) → IsJunction j → (k : Kind) (p : Part) (n : ℕ) (at : Key) →
    ¬ IsSomeAnd (element_at (document_of j) p n) (λ d. IsWrong (document_of j) k p n d at)
none_in j facts k part.Top zero at wrong = none_at_top j facts k at wrong
none_in j facts k part.Top (suc n) at wrong = rw eqb-suc-zero at wrong
none_in j facts k part.Group n at wrong =
    let found = origin_at (group_members (printed_version j)) (λ m d. IsWrong (document_of j) k part.Group m d at) j.groups n (rw group_list at wrong) in
    none_at_group j facts found.0 found.1 found.2 k at found.3
none_in j facts k part.Lane n at wrong =
    let found = origin_at (lane_members j.groups) (λ m d. IsWrong (document_of j) k part.Lane m d at) j.lanes n (rw lane_list at wrong) in
    none_at_lane j facts found.0 found.1 found.2 k at found.3
none_in j facts k part.Conflict n at wrong =
    let found = origin_at (conflict_members j.groups j.conflicts) (λ m d. IsWrong (document_of j) k part.Conflict m d at) (pairs_of j.conflicts) n
    (rw conflict_list at wrong) in
    none_at_conflict j facts found.0 found.1 found.2 k at found.3
none_in j facts k part.Link n at wrong =
    let found = origin_at (link_members j.groups) (λ m d. IsWrong (document_of j) k part.Link m d at) j.conflicts.links n (rw link_list at wrong) in
    none_at_link j facts found.0 found.1 found.2 k at found.3

no_fault : (j : JunctionView) → IsJunction j → (f : Fault) → ¬ Stands (document_of j) f
no_fault j facts f stands = none_in j facts f.kind f.part f.index f.key stands

mapped_as : {X Y Z : Type 0} (f : X → Y) (g : Y → Z) (h : X → Z) (xs : List X) → ((k : ℕ) (x : X) → slice_get xs k ≡ Some x → g (f x) ≡ h x) →
    map g (map f xs) ≡ map h xs
mapped_as f g h [] each = refl
mapped_as f g h (x ∷ xs) each = rw (each 0 x refl, mapped_as f g h xs (λ k y found. each (suc k) y found)) refl

text_there : (d : Data) (k : Key) (text : List ℕ) → text_in d k ≡ Some text → text_of d k ≡ text
text_there d k text e = rw e refl

number_back : (j : JunctionView) → IsJunction j → (i : ℕ) → i < length j.groups → group_number (document_of j) (label_at j.groups i) ≡ i
number_back j facts i inside =
    let g = group_here j.groups i inside in
    rw (label_here j.groups i g.0 g.1)
    (rw (text_there _ key.Name _ (group_label (printed_version j) g.0)) at (number_of_name (document_of j) (record { none = no_fault j facts }) i
    (table (group_members (printed_version j) g.0)) (rw group_list (table_at (group_members (printed_version j)) j.groups i g.0 g.1))))

abbrev with_max : Group → ℕ → Group
with_max g n = record { label = g.label; times = record { min_green = g.times.min_green; amber = g.times.amber; red_amber = g.times.red_amber; start_lost = g.times.start_lost; end_gain = g.times.end_gain; max_green = n } }

group_back : (v : Version) (g : Group) → (v ≡ First → g.times.max_green ≡ 300) → group_of (table (group_members v g)) ≡ g
group_back First g longest = ap (λ (n : ℕ). with_max g n) (sym (longest refl))
group_back Second g longest = refl

longest : (j : JunctionView) → IsJunction j → (k : ℕ) (g : Group) → slice_get j.groups k ≡ Some g → printed_version j ≡ First → g.times.max_green ≡ 300
longest j facts k g found first =
    let most = (all_at IsGroup j.groups k g facts.groups.each found).times.max_green in
    omega (arith, most, first_maximum j first k g found)

groups_back : (j : JunctionView) → IsJunction j → j.groups ≡ map group_of (groups_in (document_of j))
groups_back j facts = rw (
  group_list,
  mapped_as (λ g. table (group_members (printed_version j) g)) group_of (λ g. g) j.groups
      (λ k g found. group_back (printed_version j) g (longest j facts k g found)),
  map-id,
) refl

lane_back : (j : JunctionView) → IsJunction j → (l : Lane) → l.group < length j.groups → lane_of (document_of j) (table (lane_members j.groups l)) ≡ l
lane_back j facts l served = rw (number_back j facts l.group served) refl

lanes_back : (j : JunctionView) → IsJunction j → j.lanes ≡ map (lane_of (document_of j)) (lanes_in (document_of j))
lanes_back j facts = rw (
  lane_list,
  mapped_as (λ l. table (lane_members j.groups l)) (lane_of (document_of j)) (λ l. l) j.lanes
      (λ k l found. lane_back j facts l (all_at (IsLane (length j.groups)) j.lanes k l facts.lanes.each found).served),
  map-id,
) refl

-- a pair of a table as an entry
abbrev entry_in : Matrix → ℕ × ℕ → Entry
entry_in m p = record { a = p.0; b = p.1; a_to_b = seconds_between m p.0 p.1; b_to_a = seconds_between m p.1 p.0 }

entry_back : (j : JunctionView) → IsJunction j → (k : ℕ) (p : ℕ × ℕ) → slice_get (pairs_of j.conflicts) k ≡ Some p →
    entry_of (document_of j) (table (conflict_members j.groups j.conflicts p)) ≡ entry_in j.conflicts p
entry_back j facts k p found =
    let pair = pair_here j facts k p found in
    rw (number_back j facts p.0 pair.a, number_back j facts p.1 pair.b) refl

tells : (m : Matrix) → IsMatrix m → (i j w : ℕ) → i < 16 → j < 16 → intergreen_of m i j ≡ Some w → Any (Tells i j w) (map (entry_in m) (pairs_of m))
tells m matrix i j w first last intergreen =
    let conflicting : AreConflicting m i j = ap is_some intergreen in
    let inside = matrix.inside i j first last conflicting in
    let pair = pair_place m matrix i j inside.0 inside.1 conflicting in
    let entry : (p : ℕ × ℕ) → slice_get (pairs_of m) pair.0 ≡ Some p → slice_get (map (entry_in m) (pairs_of m)) pair.0 ≡ Some (entry_in m p) =
    λ p found. slice_get-map (entry_in m) (pairs_of m) pair.0 ∙ ap (option_map (entry_in m)) found in
    elim pair.1 [
      | inl rising ↦ any_at (Tells i j w) _ pair.0 _ (entry (i, j) rising) (inl (refl, refl, rw intergreen refl))
      | inr falling ↦ any_at (Tells i j w) _ pair.0 _ (entry (j, i) falling) (inr (refl, refl, rw intergreen refl))
    ]

tells_at : (m : Matrix) → IsMatrix m → (p : ℕ × ℕ) → IsPair m p → (i j w : ℕ) → Tells i j w (entry_in m p) → intergreen_of m i j ≡ Some w
tells_at m matrix p pair i j w (inl (a, b, seconds)) = rw (← a, ← b) (intergreen_seconds m p.0 p.1 pair.conflicting ∙ ap Some seconds)
tells_at m matrix p pair i j w (inr (b, a, seconds)) =
    let below = pair.within in
    let less = pair.rising in
    let few = matrix.few in
    rw (← b, ← a) (intergreen_seconds m p.1 p.0 (matrix.symmetric p.0 p.1 (omega arith) (omega arith) pair.conflicting) ∙ ap Some seconds)

tells_back : (m : Matrix) → IsMatrix m → (i j w : ℕ) → Any (Tells i j w) (map (entry_in m) (pairs_of m)) → intergreen_of m i j ≡ Some w
tells_back m matrix i j w (k, e, inside, at, says) =
    let b = origin (entry_in m) (Tells i j w) (pairs_of m) k (rw (slice_get-get_or (map (entry_in m) (pairs_of m)) k e inside, at) says) in
    tells_at m matrix b.0 (pair_at m k b.0 b.1) i j w b.2

table_of_pairs : (m : Matrix) → IsMatrix m → IsTableOf m.groups (map (entry_in m) (pairs_of m)) m
table_of_pairs m matrix = record {
  same_groups = refl;
  intergreens = λ i j w first last.
      let few = matrix.few in
      (tells m matrix i j w (omega arith) (omega arith), tells_back m matrix i j w);
}

entries_back : (j : JunctionView) → IsJunction j → map (entry_of (document_of j)) (conflicts_in (document_of j)) ≡ map (entry_in j.conflicts) (pairs_of j.conflicts)
entries_back j facts = rw conflict_list (mapped_as (λ p. table (conflict_members j.groups j.conflicts p)) (entry_of (document_of j)) (entry_in j.conflicts)
    (pairs_of j.conflicts) (entry_back j facts))

link_back : (j : JunctionView) → IsJunction j → (l : Link) → IsWithin (length j.groups) l → link_of (document_of j) (table (link_members j.groups l)) ≡ l
link_back j facts l within = rw (number_back j facts l.leader within.leader, number_back j facts l.follower within.follower) refl

links_back : (j : JunctionView) → IsJunction j → j.conflicts.links ≡ links_of (document_of j)
links_back j facts = rw (
  link_list,
  mapped_as (λ l. table (link_members j.groups l)) (link_of (document_of j)) (λ l. l) j.conflicts.links
      (λ k l found. link_back j facts l (within_groups j facts k l found)),
  map-id,
) refl

junction_back : (j : JunctionView) → IsJunction j → IsJunctionOf (document_of j) j
junction_back j facts = record {
  title = text_at (document_of j) key.Name _ (top j).name;
  least_cycle = whole_at (document_of j) key.LeastCycle _ (top j).least_cycle;
  greatest_cycle = whole_at (document_of j) key.GreatestCycle _ (top j).greatest_cycle;
  groups = groups_back j facts;
  lanes = lanes_back j facts;
  conflicts = rw (entries_back j facts, ← facts.conflicts.same_groups) (table_of_pairs j.conflicts facts.conflicts.table);
  links = links_back j facts;
}

-- bytes that are the document spell the junction
pub spells : (bytes : List ℕ) (j : JunctionView) → IsJunction j → IsDocument bytes (file_members j) → Spells bytes j
spells bytes j facts document = record {
  document = file_members j;
  is_document = document;
  faultless = no_fault j facts;
  junction_of = junction_back j facts;
  rules = facts;
}
