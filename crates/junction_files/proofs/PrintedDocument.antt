-- The document that a junction is printed as: what stands at its top and at its groups, and its lists.
use Rattle.std.proofs.Common.{ℕ, ℤ, List, Option, None, Some, Any, IsSomeAnd, option_map, take, length, slice_get, ◌≡◌, ◌+◌, ◌-◌, ◌<◌, sym, ap, ◌∙◌, arith, refl, pos, [], ◌∷◌}
use Rattle.std.proofs.lemmas.List.{get_or-take, length-take}
use Rattle.std.proofs.lemmas.Option.{slice_get-map, slice_get-get_or}
use Rattle.toml.specs.Data.{Data, Members, string, integer, array, table}
use Rattle.toml.specs.View.{items_of}
use Rattle.conflict_matrix.specs.Pairs.{pairs_of}
use Rattle.junction_model.specs.Junction.{JunctionView}
use Rattle.junction_files.specs.Document.{groups_in, lanes_in, conflicts_in, links_in, elements_in, value_in, text_in, whole_in, version_of, counted_from_one}
use Rattle.junction_files.specs.Printing.{tables, with_some_tables, group_members, lane_members, conflict_members, conflict_tables, link_members, printed_version, version_number, list_members, file_members}
use Rattle.junction_files.proofs.ElementAt.{elements-items_of, from_counted}
use Rattle.junction_files.proofs.Elements.{origin}
use Rattle.junction_model.specs.declared.group.Group.{Group}
use Rattle.junction_files.specs.declared.document.Version.{Version}
use Rattle.junction_files.specs.declared.document.Version.TheVariants.{First, Second}
use Rattle.junction_files.specs.declared.faults.Key.{Key}
use Rattle.junction_files.specs.declared.faults.Key.TheVariants as key

abbrev pub document_of : JunctionView → Data
document_of junction = table (file_members junction)

abbrev pub link_tables : JunctionView → List Data
link_tables junction = tables (link_members junction.groups) junction.conflicts.links

pub text_at : (d : Data) (k : Key) (text : List ℕ) → value_in d k ≡ Some (string text) → text_in d k ≡ Some text
text_at d k text e = rw e refl

pub whole_at : (d : Data) (k : Key) (z : ℤ) → value_in d k ≡ Some (integer z) → whole_in d k ≡ Some z
whole_at d k z e = rw e refl

list_at : (d : Data) (k : Key) (ds : List Data) → value_in d k ≡ Some (array (items_of ds)) → elements_in d k ≡ ds
list_at d k ds e = rw e (elements-items_of ds)

-- a list where it isn't empty
abbrev pub some_array : List Data → Option Data
some_array [] = None
some_array (d ∷ ds) = Some (array (items_of (d ∷ ds)))

some_list_at : (d : Data) (k : Key) (ds : List Data) → value_in d k ≡ some_array ds → elements_in d k ≡ ds
some_list_at d k [] e = rw e refl
some_list_at d k (f ∷ ds) e = list_at d k (f ∷ ds) e

-- what stands at the keys of the top
pub record HasTop (d : Data) (v : Version) (j : JunctionView) (linked : List Data) : Type 0 where
  pub version : value_in d key.Version ≡ Some (integer (pos (version_number v)))
  pub name : value_in d key.Name ≡ Some (string j.title)
  pub least_cycle : value_in d key.LeastCycle ≡ Some (integer (pos j.least_cycle))
  pub greatest_cycle : value_in d key.GreatestCycle ≡ Some (integer (pos j.greatest_cycle))
  pub groups : value_in d key.Group ≡ Some (array (items_of (tables (group_members v) j.groups)))
  pub lanes : value_in d key.Lane ≡ Some (array (items_of (tables (lane_members j.groups) j.lanes)))
  pub conflicts : value_in d key.Conflict ≡ Some (array (items_of (conflict_tables j.groups j.conflicts)))
  pub links : value_in d key.Link ≡ some_array linked

has_top : (v : Version) (j : JunctionView) (links : List Data) → HasTop (table (with_some_tables key.Link links (list_members v j))) v j links
has_top v j [] = record {
  version = refl;
  name = refl;
  least_cycle = refl;
  greatest_cycle = refl;
  groups = refl;
  lanes = refl;
  conflicts = refl;
  links = refl;
}
has_top v j (d ∷ ds) = record {
  version = refl;
  name = refl;
  least_cycle = refl;
  greatest_cycle = refl;
  groups = refl;
  lanes = refl;
  conflicts = refl;
  links = refl;
}

pub top : (j : JunctionView) → HasTop (document_of j) (printed_version j) j (link_tables j)
top j = has_top (printed_version j) j (link_tables j)

version_at : (d : Data) (v : Version) → value_in d key.Version ≡ Some (integer (pos (version_number v))) → version_of d ≡ v
version_at d First e = rw e refl
version_at d Second e = rw e refl

pub same_version : (j : JunctionView) → version_of (document_of j) ≡ printed_version j
same_version j = version_at (document_of j) (printed_version j) (top j).version

pub group_list : (junction : JunctionView) → groups_in (document_of junction) ≡ tables (group_members (printed_version junction)) junction.groups
group_list junction = list_at (document_of junction) key.Group _ (top junction).groups

pub lane_list : (junction : JunctionView) → lanes_in (document_of junction) ≡ tables (lane_members junction.groups) junction.lanes
lane_list junction = list_at (document_of junction) key.Lane _ (top junction).lanes

pub conflict_list : (junction : JunctionView) →
    conflicts_in (document_of junction) ≡ tables (conflict_members junction.groups junction.conflicts) (pairs_of junction.conflicts)
conflict_list junction = list_at (document_of junction) key.Conflict _ (top junction).conflicts

pub link_list : (junction : JunctionView) → links_in (document_of junction) ≡ tables (link_members junction.groups) junction.conflicts.links
link_list junction = some_list_at (document_of junction) key.Link _ (top junction).links

-- what stands at the keys of a group
pub record HasGroup (d : Data) (g : Group) : Type 0 where
  pub name : value_in d key.Name ≡ Some (string g.label)
  pub min_green : value_in d key.MinGreen ≡ Some (integer (pos g.times.min_green))
  pub amber : value_in d key.Amber ≡ Some (integer (pos g.times.amber))
  pub red_amber : value_in d key.RedAmber ≡ Some (integer (pos g.times.red_amber))
  pub start_lost : value_in d key.StartLost ≡ Some (integer (pos g.times.start_lost))
  pub end_gain : value_in d key.EndGain ≡ Some (integer (pos g.times.end_gain))

pub has_group : (v : Version) (g : Group) → HasGroup (table (group_members v g)) g
has_group First g = record { name = refl; min_green = refl; amber = refl; red_amber = refl; start_lost = refl; end_gain = refl }
has_group Second g = record { name = refl; min_green = refl; amber = refl; red_amber = refl; start_lost = refl; end_gain = refl }

pub group_label : (v : Version) (g : Group) → text_in (table (group_members v g)) key.Name ≡ Some g.label
group_label v g = text_at (table (group_members v g)) key.Name g.label (has_group v g).name

-- what stands at a place of a list stands at that place of its tables
pub table_at : {X : Type 0} (f : X → Members) (xs : List X) (k : ℕ) (x : X) → slice_get xs k ≡ Some x → slice_get (tables f xs) k ≡ Some (table (f x))
table_at f xs k x found = slice_get-map (λ y. table (f y)) xs k ∙ ap (option_map (λ y. table (f y))) found

-- an element of a printed list by its number
pub origin_at : {X : Type 0} (f : X → Members) (P : ℕ → Data → Type 0) (xs : List X) (n : ℕ) → IsSomeAnd (counted_from_one (tables f xs) n) (P n) →
    (k : ℕ) × (x : X) × (slice_get xs k ≡ Some x) × P (k + 1) (table (f x))
origin_at f P xs n at =
    let a = from_counted (tables f xs) P n at in
    let b = origin (λ x. table (f x)) (P (a.place + 1)) xs a.place (rw a.found a.holds) in
    (a.place, b.0, b.1, b.2)

-- an element of a printed list before another
pub origin_before : {X : Type 0} (f : X → Members) (P : Data → Type 0) (xs : List X) (k : ℕ) → Any P (take (k + 1 - 1) (tables f xs)) →
    (n : ℕ) × (x : X) × (n < k) × (slice_get xs n ≡ Some x) × P (table (f x))
origin_before f P xs k any =
    let back : k + 1 - 1 ≡ k = omega arith in
    let some : Any P (take k (tables f xs)) = rw back at any in
    let short = length-take k (tables f xs) in
    let less : some.0 < k = let inside = some.2 in omega (arith, inside, short) in
    let within : some.0 < length (tables f xs) = let inside = some.2 in omega (arith, inside, short) in
    let found : slice_get (tables f xs) some.0 ≡ Some some.1 =
    slice_get-get_or (tables f xs) some.0 some.1 within ∙ ap Some (sym (get_or-take k (tables f xs) some.0 some.1 less) ∙ some.3) in
    let b = origin (λ x. table (f x)) P xs some.0 (rw found some.4) in
    (some.0, b.0, less, b.1, b.2)

-- some element of a printed list
pub any_origin : {X : Type 0} (f : X → Members) (P : Data → Type 0) (xs : List X) → Any P (tables f xs) →
    (k : ℕ) × (x : X) × (slice_get xs k ≡ Some x) × P (table (f x))
any_origin f P xs (k, d, inside, at, holds) =
    let b = origin (λ x. table (f x)) P xs k (rw (slice_get-get_or (tables f xs) k d inside, at) holds) in
    (k, b.0, b.1, b.2)
