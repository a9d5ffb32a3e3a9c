-- No fault stands at the top of a printed document.
use Rattle.std.proofs.Common.{ℕ, List, [], ◌∷◌, None, pos, Some, IsSomeAnd, true, length, slice_get, ◌≡◌, ◌≤◌, inl, inr, refl, sym, ap, ◌∙◌, arith, ◌<◌}
use Rattle.std.proofs.lemmas.Bool.{false≢true}
use Rattle.std.proofs.lemmas.List.{length-map}
use Rattle.std.proofs.lemmas.Option.{slice_get-get_or, slice_get_within, same_Some, none-some}
use Rattle.toml.specs.Data.{Data, Members, array, as_array, table}
use Rattle.toml.specs.View.{items_of}
use Rattle.sig_base.specs.Text.{IsBetween}
use Rattle.conflict_matrix.specs.Pairs.{pairs_of}
use Rattle.conflict_matrix.proofs.PairNumbers.{pair_place, pair_count_law}
use Rattle.junction_model.specs.Junction.{JunctionView}
use Rattle.junction_model.specs.Rules.{IsJunction}
use Rattle.junction_files.specs.Document.{words_in, value_in, whole_in, list_in, elements}
use Rattle.junction_files.specs.Faults.{IsWrong, VersionFault, ShapeFault, CountFault, RangeFault, NameFault, NoFlowFault}
use Rattle.junction_files.specs.Meaning.{natural}
use Rattle.junction_files.specs.Printing.{with_some_tables, lane_members, has_elements, printed_version, list_members, file_members}
use Rattle.junction_files.specs.declared.document.Version.{Version}
use Rattle.junction_files.specs.declared.document.Version.TheVariants.{First, Second}
use Rattle.junction_files.specs.declared.faults.Kind.{Kind}
use Rattle.junction_files.specs.declared.faults.Key.{Key}
use Rattle.junction_files.proofs.ElementAt.{elements-items_of}
use Rattle.junction_files.proofs.Elements.{all_at}
use Rattle.junction_files.proofs.PrintedDocument.{HasTop, top, text_at, whole_at, some_array, link_tables, same_version, document_of, lane_list, table_at}
use Rattle.junction_files.proofs.PrintedNames.{are_keys, no_other_word, in_range_at}
use Rattle.junction_files.proofs.PrintedVersion.{first_links}
use Rattle.junction_files.specs.declared.faults.Kind.TheVariants as kind
use Rattle.junction_files.specs.declared.faults.Part.TheVariants as part
use Rattle.junction_files.specs.declared.faults.Key.TheVariants as key

none_linked : (d : Data) (ds : List Data) → ¬ (d ∷ ds ≡ [])
none_linked d ds same = false≢true (sym (ap has_elements same))

not_misshaped : (ds : List Data) → ¬ IsSomeAnd (some_array ds) (λ d. as_array d ≡ None)
not_misshaped [] wrong = wrong
not_misshaped (d ∷ ds) wrong = none-some _ (sym wrong)

version : (d : Data) (v : Version) (j : JunctionView) (links : List Data) → HasTop d v j links → (at : Key) → ¬ VersionFault part.Top d at
version d First j links has key.Version wrong = wrong (inl (whole_at d key.Version (pos 1) has.version))
version d Second j links has key.Version wrong = wrong (inr (whole_at d key.Version (pos 2) has.version))
version d v j links has _ wrong = wrong

words : (v : Version) (j : JunctionView) (links : List Data) → (v ≡ First → links ≡ []) →
    are_keys part.Top v (words_in (with_some_tables key.Link links (list_members v j))) ≡ true
words First j [] unlinked = refl
words First j (d ∷ ds) unlinked = absurd (none_linked d ds (unlinked refl))
words Second j [] unlinked = refl
words Second j (d ∷ ds) unlinked = refl

shape : (ms : Members) (v : Version) (j : JunctionView) (links : List Data) → HasTop (table ms) v j links → are_keys part.Top v (words_in ms) ≡ true → (at : Key) →
    ¬ ShapeFault v part.Top (table ms) at
shape ms v j links has listed key.Whole wrong = none-some _ (sym wrong)
shape ms v j links has listed key.Other wrong = no_other_word part.Top v (words_in ms) listed wrong
shape ms v j links has listed key.Name wrong = wrong.1 (rw has.name refl)
shape ms v j links has listed key.LeastCycle wrong = wrong.1 (rw has.least_cycle refl)
shape ms v j links has listed key.GreatestCycle wrong = wrong.1 (rw has.greatest_cycle refl)
shape ms v j links has listed key.Group wrong = wrong.1 (rw has.groups refl)
shape ms v j links has listed key.Lane wrong = wrong.1 (rw has.lanes refl)
shape ms v j links has listed key.Conflict wrong = wrong.1 (rw has.conflicts refl)
shape ms First j links has listed key.Link wrong = wrong.1
shape ms Second j links has listed key.Link wrong = not_misshaped links (rw has.links at wrong.1)
shape ms v j links has listed _ wrong = wrong.1

some_pair : (j : JunctionView) → IsJunction j → 1 ≤ length (pairs_of j.conflicts)
some_pair j p =
    let conflicts = p.conflicts in
    let table = conflicts.table in
    let some : 0 < j.conflicts.groups = omega (arith, table.few) in
    let partner = conflicts.partnered 0 some in
    let pair = pair_place j.conflicts table 0 partner.0 some partner.1 partner.2 in
    elim pair.1 [
      | inl first ↦ let inside = slice_get_within (pairs_of j.conflicts) pair.0 _ first in omega arith
      | inr last ↦ let inside = slice_get_within (pairs_of j.conflicts) pair.0 _ last in omega arith
    ]

counted : (d : Data) (k : Key) (low high : ℕ) (ds : List Data) → value_in d k ≡ Some (array (items_of ds)) →
    low ≤ length ds → length ds ≤ high → ¬ IsSomeAnd (list_in d k) (λ es. ¬ IsBetween low high (length es))
counted d k low high ds e least greatest wrong =
    let all : elements (items_of ds) ≡ ds = elements-items_of ds in
    (rw (e, all) at wrong) (least, greatest)

counted_some : (d : Data) (ds : List Data) → value_in d key.Link ≡ some_array ds → length ds ≤ 12 →
    ¬ IsSomeAnd (list_in d key.Link) (λ es. ¬ IsBetween 0 12 (length es))
counted_some d [] e few wrong = rw e at wrong
counted_some d (f ∷ ds) e few wrong = counted d key.Link 0 12 (f ∷ ds) e (omega arith) few wrong

count : (j : JunctionView) → IsJunction j → (at : Key) → ¬ CountFault part.Top (document_of j) at
count j p key.Group wrong = counted (document_of j) key.Group 2 16 _ (top j).groups
    (rw length-map p.groups.several) (rw length-map p.groups.few) wrong
count j p key.Lane wrong = counted (document_of j) key.Lane 1 32 _ (top j).lanes
    (rw length-map p.lanes.some) (rw length-map p.lanes.few) wrong
count j p key.Conflict wrong = counted (document_of j) key.Conflict 1 120 _ (top j).conflicts
    (rw length-map (some_pair j p)) (rw length-map (pair_count_law j.conflicts p.conflicts.table)) wrong
count j p key.Link wrong =
    counted_some (document_of j) (link_tables j) (top j).links (rw length-map p.conflicts.table.links.linkable.few) wrong
count j p _ wrong = wrong

range : (j : JunctionView) → IsJunction j → (at : Key) → ¬ RangeFault (document_of j) part.Top (document_of j) at
range j p key.LeastCycle wrong =
    let cycles = p.cycles in
    in_range_at (document_of j) key.LeastCycle j.least_cycle 1 300 (top j).least_cycle cycles.some (omega (arith, cycles.ordered, cycles.longest)) wrong
range j p key.GreatestCycle wrong =
    in_range_at (document_of j) key.GreatestCycle j.greatest_cycle j.least_cycle 300 (top j).greatest_cycle p.cycles.ordered p.cycles.longest
    (rw (whole_at (document_of j) key.LeastCycle _ (top j).least_cycle) at wrong)
range j p _ wrong = wrong

name : (j : JunctionView) → IsJunction j → (at : Key) → ¬ NameFault (document_of j) part.Top 0 (document_of j) at
name j p key.Name wrong = (rw (text_at (document_of j) key.Name _ (top j).name) at wrong) p.title
name j p _ wrong = wrong

flow : (j : JunctionView) → IsJunction j → (at : Key) → ¬ NoFlowFault part.Top (document_of j) at
flow j p key.Lane wrong =
    let (k, lane, inside, at, arrives) = p.lanes.some_arrival in
    let found : slice_get j.lanes k ≡ Some lane = slice_get-get_or j.lanes k lane inside ∙ ap Some at in
    let idle : Some (pos lane.arrival) ≡ Some (pos 0) = all_at (λ d. whole_in d key.Arrival ≡ Some (pos 0)) _ k _ (rw lane_list at wrong)
    (table_at (lane_members j.groups) j.lanes k lane found) in
    let none : lane.arrival ≡ 0 = ap natural (same_Some (pos lane.arrival) (pos 0) idle) in
    omega arith
flow j p _ wrong = wrong

pub none_at_top : (j : JunctionView) → IsJunction j → (f : Kind) (at : Key) → ¬ IsWrong (document_of j) f part.Top 0 (document_of j) at
none_at_top j p kind.Version at wrong = version (document_of j) (printed_version j) j (link_tables j) (top j) at wrong
none_at_top j p kind.Shape at wrong =
    shape (file_members j) (printed_version j) j (link_tables j) (top j) (words (printed_version j) j (link_tables j) (first_links j)) at (rw same_version at wrong)
none_at_top j p kind.Count at wrong = count j p at wrong
none_at_top j p kind.Range at wrong = range j p at wrong
none_at_top j p kind.Name at wrong = name j p at wrong
none_at_top j p kind.NoFlow at wrong = flow j p at wrong
none_at_top j p _ at wrong = wrong
