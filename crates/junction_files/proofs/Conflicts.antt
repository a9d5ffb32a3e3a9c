-- The conflicts of a document in which no fault stands: their entries make a table without a fault.
use Rattle.std.proofs.Common.{ℕ, List, [], ◌∷◌, Some, map, length, get_or, slice_get, ◌≡◌, ◌+◌, ◌<◌, refl, pos, option_map, IsSomeAnd, Any, ◌⊎◌, ◌<ℤ◌, inl, inr, sym, ap, ◌∙◌, arith}
use Rattle.toml.specs.Data.{Data}
use Rattle.toml.specs.View.{view}
use Rattle.toml.specs.declared.value.Value.{Value}
use Rattle.junction_files.specs.Document.{conflicts_in, groups_in, text_in, whole_in}
use Rattle.junction_files.specs.Faultless.{IsFaultless, IsConflictElement, IsGroupName}
use Rattle.junction_files.proofs.Faultless.{none_at, is_table, has_text, has_number, count_groups, count_conflicts}
use Rattle.junction_files.proofs.ElementAt.{conflict_place, view_at, group_place}
use Rattle.junction_files.proofs.Groups.{reference_at, group_element, same_name, number_of_name}
use Rattle.std.proofs.lemmas.List.{length-map}
use Rattle.std.proofs.lemmas.Option.{slice_get_within, slice_get-map, slice_get-get_or, slice_get_cases, same_Some}
use Rattle.sig_base.specs.declared.group_times.GroupTimes.{GroupTimes}
use Rattle.conflict_matrix.specs.declared.entry.Entry.{Entry}
use Rattle.junction_files.specs.Meaning.{text_of, times_of, group_of, entry_of, group_number, number_of, entries_in}
use Rattle.junction_files.proofs.Elements.{origin, any_before, any_at}
use Rattle.std.proofs.lemmas.Int.{ints}
use Rattle.sig_base.specs.First.{SomeBelow}
use Rattle.conflict_matrix.specs.declared.fault.Way.TheVariants.{AToB, BToA}
use Rattle.conflict_matrix.specs.declared.fault.ConflictFault.{ConflictFault}
use Rattle.conflict_matrix.specs.declared.fault.ConflictFault.TheVariants.{SelfConflict, Twice, Lonely, ShortIntergreen}
use Rattle.junction_files.specs.Faults.{Involves, HasMore}
use Rattle.junction_model.specs.declared.group.Group.{Group}
use Rattle.junction_files.specs.declared.faults.Key.{Key}
use Rattle.junction_files.specs.declared.faults.Kind.TheVariants as kind
use Rattle.junction_files.specs.declared.faults.Part.TheVariants as part
use Rattle.junction_files.specs.declared.faults.Key.TheVariants as key
use Rattle.conflict_matrix.specs.Entries as table

pub conflict_element : (document : Data) → IsFaultless document → (k : ℕ) (d : Data) → slice_get (conflicts_in document) k ≡ Some d → IsConflictElement document d
conflict_element document faultless k d found =
    let at = conflict_place document k d found in
    let none = none_at document faultless part.Conflict (k + 1) d at in
    let table = is_table document faultless part.Conflict (k + 1) d at in
    record {
      a = reference_at document faultless d key.A (has_text d key.A table (none kind.Shape key.A)) (none kind.Unknown key.A);
      b = reference_at document faultless d key.B (has_text d key.B table (none kind.Shape key.B)) (none kind.Unknown key.B);
      a_to_b = has_number d key.AToB _ _ table (none kind.Shape key.AToB) (none kind.Range key.AToB);
      b_to_a = has_number d key.BToA _ _ table (none kind.Shape key.BToA) (none kind.Range key.BToA);
    }

-- the same of a value that is read from the list
pub conflict_value : (document : Data) → IsFaultless document → (values : List Value) (k : ℕ) (value : Value) →
    map view values ≡ conflicts_in document → k < length values → value ≡ get_or values k value → IsConflictElement document (view value)
conflict_value document faultless values k value same inside read =
    conflict_element document faultless k (view value) (view_at values (conflicts_in document) k value same inside read)

-- the times of the groups
abbrev pub times_in : Data → List GroupTimes
times_in document = map times_of (groups_in document)

pub times_again : (ds : List Data) → map (λ (group : Group). group.times) (map group_of ds) ≡ map times_of ds
times_again [] = refl
times_again (d ∷ ds) = rw (times_again ds) refl

in_groups : (document : Data) (name : List ℕ) → IsGroupName document name → group_number document name < length (times_in document)
in_groups document name g = rw length-map (slice_get_within (groups_in document) (group_number document name) g.group g.found)

pub are_entries : (document : Data) → IsFaultless document → table.AreEntries (times_in document) (entries_in document)
are_entries document faultless =
    let counted : (k : ℕ) (e : Entry) → slice_get (entries_in document) k ≡ Some e → (d : Data) × IsConflictElement document d × (entry_of document d ≡ e) =
    λ k e found.
    let b = origin (entry_of document) (λ (f : Entry). f ≡ e) (conflicts_in document) k (rw found refl) in
    (b.0, conflict_element document faultless k b.0 b.1, b.2) in
    record {
      few_groups = rw length-map (count_groups document faultless);
      few_entries = rw length-map (count_conflicts document faultless).1;
      named = λ k e found. let c = counted k e found in
          rw (← c.2) (in_groups document (text_of c.0 key.A) c.1.a.group, in_groups document (text_of c.0 key.B) c.1.b.group);
      bounded = λ k e found. let c = counted k e found in rw (← c.2) (c.1.a_to_b.greatest, c.1.b_to_a.greatest);
    }

not_self : (document : Data) → IsFaultless document → (k : ℕ) → ¬ table.SelfConflictAt (entries_in document) k
not_self document faultless k self =
    let b = origin (entry_of document) table.IsSelfConflict (conflicts_in document) k self in
    let c = conflict_element document faultless k b.0 b.1 in
    let same = same_name document (text_of b.0 key.A) (text_of b.0 key.B) c.a.group c.b.group b.2 in
    let none = none_at document faultless part.Conflict (k + 1) b.0 (conflict_place document k b.0 b.1) kind.SelfConflict key.Whole in
    (rw c.a.text at none) (c.b.text ∙ ap Some (sym same))

not_twice : (document : Data) → IsFaultless document → (k : ℕ) → ¬ table.RepeatedAt (entries_in document) k
not_twice document faultless k repeated =
    let b = origin (entry_of document)
    (λ (e : Entry). SomeBelow (λ n. IsSomeAnd (slice_get (entries_in document) n) (λ before. table.IsSamePair before e)) k) (conflicts_in document) k repeated in
    let before = origin (entry_of document) (λ (e : Entry). table.IsSamePair e (entry_of document b.0)) (conflicts_in document) b.2.0 b.2.2 in
    let c = conflict_element document faultless k b.0 b.1 in
    let d = conflict_element document faultless b.2.0 before.0 before.1 in
    let none = none_at document faultless part.Conflict (k + 1) b.0 (conflict_place document k b.0 b.1) kind.Twice key.Whole in
    let same = same_name document in
    (rw (c.a.text, c.b.text) at none) (any_before _ (conflicts_in document) k b.2.0 before.0 b.0 b.2.1 b.1 before.1 (elim before.2 [
      | inl pair ↦ inl (d.a.text ∙ ap Some (same _ _ d.a.group c.a.group pair.0), d.b.text ∙ ap Some (same _ _ d.b.group c.b.group pair.1))
      | inr pair ↦ inr (d.a.text ∙ ap Some (same _ _ d.a.group c.b.group pair.0), d.b.text ∙ ap Some (same _ _ d.b.group c.a.group pair.1))
    ]))

involves : (document : Data) → IsFaultless document → (g : ℕ) (d : Data) → slice_get (groups_in document) g ≡ Some d →
    Any (Involves (text_of d key.Name)) (conflicts_in document) → Any (table.Involves g) (entries_in document)
involves document faultless g d at_group (k, conflict, inside, at, involved) =
    let conflicts = conflicts_in document in
    let found : slice_get conflicts k ≡ Some conflict = slice_get-get_or conflicts k conflict inside ∙ ap Some at in
    let c = conflict_element document faultless k conflict found in
    let number = number_of_name document faultless g d at_group in
    let name = text_of d key.Name in
    any_at (table.Involves g) (entries_in document) k (entry_of document conflict) (slice_get-map (entry_of document) conflicts k ∙ ap (option_map (entry_of document)) found)
    (elim involved [
      | inl a ↦ inl (ap (group_number document) (same_Some _ name (sym c.a.text ∙ a)) ∙ number)
      | inr b ↦ inr (ap (group_number document) (same_Some _ name (sym c.b.text ∙ b)) ∙ number)
    ])

not_lonely : (document : Data) → IsFaultless document → (g : ℕ) → g < length (groups_in document) → ¬ table.LonelyAt (entries_in document) g
not_lonely document faultless g inside lonely = elim (slice_get_cases (groups_in document) g).1 [
  | inl (d, within, found, same) ↦
      (rw (group_element document faultless g d found).label.text at
      (none_at document faultless part.Group (g + 1) d (group_place document g d found) kind.Lonely key.Whole))
      (λ any. lonely (involves document faultless g d found any))
  | inr (past, missing) ↦ absurd (omega arith)
]

has_more : (document : Data) (name : List ℕ) → IsGroupName document name → (k : Key) (w : ℕ) (d : Data) →
    slice_get (groups_in document) (group_number document name) ≡ Some d → whole_in d k ≡ Some (pos (number_of d k)) → w < number_of d k →
    HasMore document (Some name) k (pos w)
has_more document name g k w d found whole more =
    let same : g.group ≡ d = same_Some g.group d (sym g.found ∙ found) in
    let above : pos w <ℤ pos (number_of d k) = omega (arith, ints) in
    any_at _ (groups_in document) (group_number document name) d found (sym (ap (λ e. text_in e key.Name) same) ∙ g.named, rw whole above)

too_short : (document : Data) → IsFaultless document → (s t : List ℕ) → IsGroupName document s → IsGroupName document t → (w : ℕ) →
    table.IsTooShort (times_in document) (group_number document s) (group_number document t) w →
    HasMore document (Some s) key.Amber (pos w) ⊎ HasMore document (Some t) key.RedAmber (pos w)
too_short document faultless s t g h w (inl short) =
    let b = origin times_of (λ (times : GroupTimes). w < times.amber) (groups_in document) (group_number document s) short in
    inl (has_more document s g key.Amber w b.0 b.1 (group_element document faultless _ b.0 b.1).times.amber.whole b.2)
too_short document faultless s t g h w (inr short) =
    let b = origin times_of (λ (times : GroupTimes). w < times.red_amber) (groups_in document) (group_number document t) short in
    inr (has_more document t h key.RedAmber w b.0 b.1 (group_element document faultless _ b.0 b.1).times.red_amber.whole b.2)

not_short : (document : Data) → IsFaultless document → (k : ℕ) → ¬ table.ShortAt (times_in document) (entries_in document) k
not_short document faultless k short =
    let b = origin (entry_of document) (λ (e : Entry). table.IsShort (times_in document) AToB e ⊎ table.IsShort (times_in document) BToA e)
    (conflicts_in document) k short in
    let c = conflict_element document faultless k b.0 b.1 in
    let none = none_at document faultless part.Conflict (k + 1) b.0 (conflict_place document k b.0 b.1) kind.ShortIntergreen in
    elim b.2 [
      | inl a_to_b ↦ (rw (c.a.text, c.b.text, c.a_to_b.whole) at (none key.AToB)) (too_short document faultless _ _ c.a.group c.b.group _ a_to_b)
      | inr b_to_a ↦ (rw (c.a.text, c.b.text, c.b_to_a.whole) at (none key.BToA)) (too_short document faultless _ _ c.b.group c.a.group _ b_to_a)
    ]

pub are_faultless : (document : Data) → IsFaultless document → table.AreFaultless (times_in document) (entries_in document)
are_faultless document faultless = record {
  apart = λ k below. not_self document faultless k;
  once = λ k below. not_twice document faultless k;
  partnered = λ g below. not_lonely document faultless g (rw length-map at below);
  long_enough = λ k below. not_short document faultless k;
}

-- the table of the entries has no fault
pub no_fault : (document : Data) → IsFaultless document → (f : ConflictFault) → ¬ table.IsFirstFault (times_in document) (entries_in document) f
no_fault document faultless (SelfConflict k) first = not_self document faultless k first.holds
no_fault document faultless (Twice k) first = not_twice document faultless k first.1.holds
no_fault document faultless (Lonely g) first = not_lonely document faultless g (rw length-map at first.2.within) first.2.holds
no_fault document faultless (ShortIntergreen k way) first = not_short document faultless k first.3.holds
