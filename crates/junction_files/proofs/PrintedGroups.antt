-- No fault stands at a printed group.
use Rattle.std.proofs.Common.{ℕ, Some, Any, slice_get, ◌≡◌, ◌+◌, ◌<◌, ◌<ℤ◌, ◌≤ℤ◌, ◌+ℤ◌, pos, inl, inr, refl, sym, arith}
use Rattle.std.proofs.lemmas.Int.{ints}
use Rattle.std.proofs.lemmas.Option.{slice_get_within, none-some}
use Rattle.toml.specs.Data.{Data, table}
use Rattle.conflict_matrix.specs.Pairs.{pairs_of}
use Rattle.junction_model.specs.Junction.{JunctionView}
use Rattle.junction_model.specs.Rules.{IsGroup, IsJunction}
use Rattle.junction_model.specs.declared.group.Group.{Group}
use Rattle.junction_files.specs.Document.{words_in, conflicts_in}
use Rattle.junction_files.specs.Faults.{Involves, IsWrong, ShapeFault, RangeFault, NameFault, LonelyFault, EndGainFault, NoEffectiveFault, MaxGreenFault}
use Rattle.junction_files.specs.Printing.{group_members, conflict_members, printed_version}
use Rattle.junction_files.specs.declared.document.Version.{Version}
use Rattle.junction_files.specs.declared.document.Version.TheVariants.{First, Second}
use Rattle.junction_files.specs.declared.faults.Kind.{Kind}
use Rattle.junction_files.specs.declared.faults.Key.{Key}
use Rattle.junction_files.proofs.PrintedDocument.{HasGroup, has_group, group_label, same_version, document_of, group_list, conflict_list, table_at}
use Rattle.junction_files.proofs.PrintedNames.{no_other_word, in_bounds, in_range_at, good_label}
use Rattle.conflict_matrix.proofs.PairNumbers.{pair_place}
use Rattle.junction_files.proofs.Elements.{any_at, all_at}
use Rattle.junction_files.specs.declared.faults.Kind.TheVariants as kind
use Rattle.junction_files.specs.declared.faults.Part.TheVariants as part
use Rattle.junction_files.specs.declared.faults.Key.TheVariants as key

shape : (v : Version) (g : Group) (at : Key) → ¬ ShapeFault v part.Group (table (group_members v g)) at
shape v g key.Whole wrong = none-some _ (sym wrong)
shape First g key.Other wrong = no_other_word part.Group First (words_in (group_members First g)) refl wrong
shape Second g key.Other wrong = no_other_word part.Group Second (words_in (group_members Second g)) refl wrong
shape v g key.Name wrong = wrong.1 (rw (has_group v g).name refl)
shape v g key.MinGreen wrong = wrong.1 (rw (has_group v g).min_green refl)
shape v g key.Amber wrong = wrong.1 (rw (has_group v g).amber refl)
shape v g key.RedAmber wrong = wrong.1 (rw (has_group v g).red_amber refl)
shape v g key.StartLost wrong = wrong.1 (rw (has_group v g).start_lost refl)
shape v g key.EndGain wrong = wrong.1 (rw (has_group v g).end_gain refl)
shape First g key.MaxGreen wrong = wrong.1
shape Second g key.MaxGreen wrong = none-some _ (sym wrong.1)
shape v g _ wrong = wrong.1

maximum_range : (document : Data) (v : Version) (g : Group) → IsGroup g → ¬ RangeFault document part.Group (table (group_members v g)) key.MaxGreen
maximum_range document First g rules wrong = wrong
maximum_range document Second g rules wrong = in_bounds g.times.max_green 1 300 rules.times.max_green.0 rules.times.max_green.1 wrong

range : (document : Data) (v : Version) (g : Group) → IsGroup g → (at : Key) → ¬ RangeFault document part.Group (table (group_members v g)) at
range document v g rules key.MinGreen wrong =
    in_range_at (table (group_members v g)) key.MinGreen g.times.min_green 1 120 (has_group v g).min_green rules.times.shown rules.times.min_green wrong
range document v g rules key.Amber wrong = in_range_at (table (group_members v g)) key.Amber g.times.amber 0 30 (has_group v g).amber (omega arith) rules.times.amber wrong
range document v g rules key.RedAmber wrong =
    in_range_at (table (group_members v g)) key.RedAmber g.times.red_amber 0 10 (has_group v g).red_amber (omega arith) rules.times.red_amber wrong
range document v g rules key.StartLost wrong =
    in_range_at (table (group_members v g)) key.StartLost g.times.start_lost 0 10 (has_group v g).start_lost (omega arith) rules.times.lost_and_gained.0 wrong
range document v g rules key.EndGain wrong =
    in_range_at (table (group_members v g)) key.EndGain g.times.end_gain 0 30 (has_group v g).end_gain (omega arith) rules.times.lost_and_gained.1 wrong
range document v g rules key.MaxGreen wrong = maximum_range document v g rules wrong
range document v g rules _ wrong = wrong

name : (j : JunctionView) → IsJunction j → (k : ℕ) (g : Group) → slice_get j.groups k ≡ Some g → (at : Key) →
    ¬ NameFault (document_of j) part.Group (k + 1) (table (group_members (printed_version j) g)) at
name j p k g found key.Name wrong =
    good_label (λ (h : Group). h.label) (group_members (printed_version j)) (group_label (printed_version j)) j.groups p.groups.distinct k g found
    (all_at IsGroup j.groups k g p.groups.each found).label (rw group_list at wrong)
name j p k g found _ wrong = wrong

conflict_here : (j : JunctionView) → IsJunction j → (k : ℕ) (g : Group) → slice_get j.groups k ≡ Some g → Any (Involves g.label) (conflicts_in (document_of j))
conflict_here j p k g found =
    let conflicts = p.conflicts in
    let inside : k < j.conflicts.groups = rw conflicts.same_groups (slice_get_within j.groups k g found) in
    let partner = conflicts.partnered k inside in
    let pair = pair_place j.conflicts conflicts.table k partner.0 inside partner.1 partner.2 in
    let f = conflict_members j.groups j.conflicts in
    rw conflict_list (elim pair.1 [
      | inl first ↦ any_at (Involves g.label) _ pair.0 _ (table_at f (pairs_of j.conflicts) pair.0 _ first) (inl (rw found refl))
      | inr last ↦ any_at (Involves g.label) _ pair.0 _ (table_at f (pairs_of j.conflicts) pair.0 _ last) (inr (rw found refl))
    ])

lonely : (j : JunctionView) → IsJunction j → (k : ℕ) (g : Group) → slice_get j.groups k ≡ Some g → (at : Key) →
    ¬ LonelyFault (document_of j) part.Group (table (group_members (printed_version j) g)) at
lonely j p k g found key.Whole wrong = (rw (group_label (printed_version j) g) at wrong) (conflict_here j p k g found)
lonely j p k g found _ wrong = wrong

gain : (d : Data) (g : Group) → HasGroup d g → IsGroup g → (at : Key) → ¬ EndGainFault part.Group d at
gain d g has rules key.EndGain wrong =
    let more : pos g.times.amber <ℤ pos g.times.end_gain = rw (has.end_gain, has.amber) at wrong in
    let within = rules.gained_in_amber in omega (arith, ints)
gain d g has rules _ wrong = wrong

effective : (d : Data) (g : Group) → HasGroup d g → IsGroup g → (at : Key) → ¬ NoEffectiveFault part.Group d at
effective d g has rules key.StartLost wrong =
    let all : (pos g.times.min_green +ℤ pos g.times.end_gain) ≤ℤ pos g.times.start_lost = rw (has.start_lost, has.end_gain, has.min_green) at wrong in
    let some = rules.some_effective in omega (arith, ints)
effective d g has rules _ wrong = wrong

maximum : (v : Version) (g : Group) → IsGroup g → (at : Key) → ¬ MaxGreenFault part.Group (table (group_members v g)) at
maximum First g rules key.MaxGreen wrong = wrong
maximum Second g rules key.MaxGreen wrong = let enough = rules.not_below in omega (arith, ints)
maximum v g rules _ wrong = wrong

none_wrong : (j : JunctionView) → IsJunction j → (k : ℕ) (g : Group) → slice_get j.groups k ≡ Some g → IsGroup g →
    (f : Kind) (at : Key) → ¬ IsWrong (document_of j) f part.Group (k + 1) (table (group_members (printed_version j) g)) at
none_wrong j p k g found rules kind.Shape at wrong = shape (printed_version j) g at (rw same_version at wrong)
none_wrong j p k g found rules kind.Range at wrong = range (document_of j) (printed_version j) g rules at wrong
none_wrong j p k g found rules kind.Name at wrong = name j p k g found at wrong
none_wrong j p k g found rules kind.Lonely at wrong = lonely j p k g found at wrong
none_wrong j p k g found rules kind.EndGain at wrong = gain _ g (has_group (printed_version j) g) rules at wrong
none_wrong j p k g found rules kind.NoEffective at wrong = effective _ g (has_group (printed_version j) g) rules at wrong
none_wrong j p k g found rules kind.MaxGreen at wrong = maximum (printed_version j) g rules at wrong
none_wrong j p k g found rules _ at wrong = wrong

pub none_at_group : (j : JunctionView) → IsJunction j → (k : ℕ) (g : Group) → slice_get j.groups k ≡ Some g → (f : Kind) (at : Key) →
    ¬ IsWrong (document_of j) f part.Group (k + 1) (table (group_members (printed_version j) g)) at
none_at_group j p k g found f at wrong = none_wrong j p k g found (all_at IsGroup j.groups k g p.groups.each found) f at wrong
