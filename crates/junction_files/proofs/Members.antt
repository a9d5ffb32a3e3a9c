-- The members of printed tables: how one is inserted, how deep they are, and that they hold no date.
use Rattle.std.proofs.Common.{◌≡◌, List, [], ◌∷◌, String, string_bytes, Ordering, Less, Equal, Greater, refl, ap, ℕ, ◌++◌, take, map, slice_get, Some, BTreeMap, ◌+◌, arith, true, ◌≤◌}
use Rattle.std.specs.BTreeMap.{insert_entry}
use Rattle.std.specs.Ordering.{match_ordering}
use Rattle.std.specs.String.{string_cmp}
use Rattle.std.specs.declared.alloc.Global.{Global}
use Rattle.toml.specs.Data.{Data, Members, member, table, items_depth, members_depth, items_have_valid_dates, members_have_valid_dates}
use Rattle.toml.specs.View.{view, members_view, table_view, items_of}
use Rattle.toml.specs.declared.value.Value.{Value, Table}
use Rattle.junction_files.specs.Printing.{insert_member, tables, with_some_tables, group_members, lane_members, conflict_members, link_members, printed_version, list_members, file_members}
use Rattle.std.proofs.lemmas.List.{take_more, map_push}
use Rattle.std.proofs.lemmas.Option.{slice_get_within, get_or_from_slice_get}
use Rattle.toml.proofs.Views.{view-Table}
use Rattle.conflict_matrix.specs.Pairs.{pairs_of}
use Rattle.junction_model.specs.Junction.{JunctionView}
use Rattle.junction_model.specs.declared.group.Group.{Group}
use Rattle.junction_files.specs.declared.document.Version.{Version}
use Rattle.junction_files.specs.declared.document.Version.TheVariants.{First, Second}
use Rattle.junction_files.specs.declared.faults.Key.TheVariants as key

at_order : (o : Ordering) (k : String Global) (v : Value) (e : String Global × Value) (es fs : List (String Global × Value)) (ms : Members) → members_view fs ≡ ms →
    members_view (match_ordering o ((k, v) ∷ e ∷ es) ((e.0, v) ∷ es) (e ∷ fs))
    ≡ match_ordering o (member (string_bytes k) (view v) (members_view (e ∷ es))) (member (string_bytes e.0) (view v) (members_view es)) (member (string_bytes e.0) (view e.1) ms)
at_order Less k v e es fs ms same = refl
at_order Equal k v e es fs ms same = refl
at_order Greater k v e es fs ms same = ap (λ (rest : Members). member (string_bytes e.0) (view e.1) rest) same

pub members_insert : (k : String Global) (v : Value) (es : List (String Global × Value)) →
    members_view (insert_entry string_cmp es k v) ≡ insert_member (string_bytes k) (view v) (members_view es)
members_insert k v [] = refl
members_insert k v (e ∷ es) = at_order (string_cmp k e.0) k v e es _ _ (members_insert k v es)

-- one more table of a list
pub tables_more : {X : Type 0} (f : X → Members) (old new : List Value) (made : BTreeMap (String Global) Value) (xs : List X) (i : ℕ) (x : X) →
    new ≡ old ++ Table made ∷ [] → table_view made ≡ f x → slice_get xs i ≡ Some x → map view old ≡ tables f (take i xs) →
    map view new ≡ tables f (take (i + 1) xs)
tables_more f old new made xs i x pushed seen found before =
    rw (
      pushed,
      take_more xs i x (slice_get_within xs i x found),
      get_or_from_slice_get xs i x x found,
      map_push view old (Table made),
      map_push (λ y. table (f y)) (take i xs) x,
      view-Table,
      before,
      seen,
    ) refl

list_depth : {X : Type 0} (f : X → Members) (xs : List X) → ((x : X) → members_depth (f x) ≡ 0) → items_depth (items_of (tables f xs)) ≤ 1
list_depth f [] flat = omega arith
list_depth f (x ∷ xs) flat = let rest = list_depth f xs flat in rw flat (omega (arith, rest))

list_dates : {X : Type 0} (f : X → Members) (xs : List X) → ((x : X) → members_have_valid_dates (f x) ≡ true) →
    items_have_valid_dates (items_of (tables f xs)) ≡ true
list_dates f [] none = refl
list_dates f (x ∷ xs) none = rw (none, list_dates f xs none) refl

group_depth : (v : Version) (g : Group) → members_depth (group_members v g) ≡ 0
group_depth First g = refl
group_depth Second g = refl

group_dates : (v : Version) (g : Group) → members_have_valid_dates (group_members v g) ≡ true
group_dates First g = refl
group_dates Second g = refl

linked_depth : (v : Version) (j : JunctionView) (links : List Data) → items_depth (items_of links) ≤ 1 →
    members_depth (with_some_tables key.Link links (list_members v j)) ≤ 80
linked_depth v j [] flat =
    let groups = list_depth (group_members v) j.groups (group_depth v) in
    let lanes = list_depth (lane_members j.groups) j.lanes (λ l. refl) in
    let conflicts = list_depth (conflict_members j.groups j.conflicts) (pairs_of j.conflicts) (λ p. refl) in
    omega (arith, groups, lanes, conflicts)
linked_depth v j (d ∷ ds) flat =
    let groups = list_depth (group_members v) j.groups (group_depth v) in
    let lanes = list_depth (lane_members j.groups) j.lanes (λ l. refl) in
    let conflicts = list_depth (conflict_members j.groups j.conflicts) (pairs_of j.conflicts) (λ p. refl) in
    omega (arith, groups, lanes, conflicts, flat)

pub file_depth : (j : JunctionView) → members_depth (file_members j) ≤ 80
file_depth j = linked_depth (printed_version j) j _ (list_depth (link_members j.groups) j.conflicts.links (λ l. refl))

linked_dates : (v : Version) (j : JunctionView) (links : List Data) → items_have_valid_dates (items_of links) ≡ true →
    members_have_valid_dates (with_some_tables key.Link links (list_members v j)) ≡ true
linked_dates v j [] none = rw (
  list_dates (group_members v) j.groups (group_dates v),
  list_dates (lane_members j.groups) j.lanes (λ l. refl),
  list_dates (conflict_members j.groups j.conflicts) (pairs_of j.conflicts) (λ p. refl),
) refl
linked_dates v j (d ∷ ds) none = rw (
  list_dates (group_members v) j.groups (group_dates v),
  list_dates (lane_members j.groups) j.lanes (λ l. refl),
  list_dates (conflict_members j.groups j.conflicts) (pairs_of j.conflicts) (λ p. refl),
  none,
) refl

pub file_dates : (j : JunctionView) → members_have_valid_dates (file_members j) ≡ true
file_dates j = linked_dates (printed_version j) j _ (list_dates (link_members j.groups) j.conflicts.links (λ l. refl))
