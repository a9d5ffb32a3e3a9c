-- The groups of a document in which no fault stands, their names, and the numbers that these have.
use Rattle.std.proofs.Common.{ℕ, ℤ, IsSomeAnd, List, Some, map, length, get_or, slice_get, ◌≡◌, ◌+◌, ◌<◌, inl, Bool, true, false, Option, None, position, ◌≢◌, ◌≤◌, inr, refl, sym, ◌∙◌, ap, arith, Any, pos, ◌<ℤ◌, ◌≤ℤ◌, ◌+ℤ◌}
use Rattle.toml.specs.Data.{Data}
use Rattle.toml.specs.View.{view}
use Rattle.toml.specs.declared.value.Value.{Value}
use Rattle.junction_files.specs.Document.{groups_in, text_in, whole_in}
use Rattle.junction_files.specs.Faultless.{IsFaultless, HasNumber, HasNumberOr, IsGroupElement, IsGroupName, HasReference}
use Rattle.junction_files.proofs.Faultless.{none_at, is_table, has_text, has_number, has_number_or, count_groups, not_below}
use Rattle.junction_files.proofs.Decisions.{stable, is_label, is_text}
use Rattle.junction_files.proofs.ElementAt.{group_place, view_at}
use Rattle.std.specs.List.{position_or_len}
use Rattle.std.proofs.lemmas.Bool.{false≢true, false_from_ne_true, cases_lt}
use Rattle.std.proofs.lemmas.List.Sums.{fails_before_first, position_or_len_is}
use Rattle.std.proofs.lemmas.List.Quantifiers.{position-Some}
use Rattle.std.proofs.lemmas.Option.{slice_get-get_or, slice_get_within, get_or_from_slice_get, same_Some}
use Rattle.std.proofs.lemmas.Slice.Eq.{bytes_eq-Decides}
use Rattle.junction_files.specs.Faults.{IsNamed, IsUnknown}
use Rattle.junction_files.specs.Meaning.{natural, number_or, number_of, text_of, has_name, group_number, group_of}
use Rattle.junction_files.specs.declared.faults.Key.{Key}
use Rattle.junction_files.proofs.Elements.{some_of, any_before, all_of_map, pairs_of_map}
use Rattle.std.proofs.lemmas.Int.{ints}
use Rattle.std.proofs.lemmas.List.{length-map}
use Rattle.junction_model.specs.declared.group.Group.{Group}
use Rattle.junction_model.specs.Rules.{IsGroup, AreGroups}
use Rattle.junction_files.specs.declared.faults.Kind.TheVariants as kind
use Rattle.junction_files.specs.declared.faults.Part.TheVariants as part
use Rattle.junction_files.specs.declared.faults.Key.TheVariants as key

pub group_element : (document : Data) → IsFaultless document → (k : ℕ) (d : Data) → slice_get (groups_in document) k ≡ Some d → IsGroupElement d
group_element document faultless k d found =
    let at = group_place document k d found in
    let none = none_at document faultless part.Group (k + 1) d at in
    let table = is_table document faultless part.Group (k + 1) d at in
    let name = has_text d key.Name table (none kind.Shape key.Name) in
    record {
      label = record { text = name; label = stable (is_label (text_of d key.Name)) (λ broken. (rw name at (none kind.Name key.Name)) (inl broken)) };
      times = record {
        min_green = has_number d key.MinGreen _ _ table (none kind.Shape key.MinGreen) (none kind.Range key.MinGreen);
        amber = has_number d key.Amber _ _ table (none kind.Shape key.Amber) (none kind.Range key.Amber);
        red_amber = has_number d key.RedAmber _ _ table (none kind.Shape key.RedAmber) (none kind.Range key.RedAmber);
        start_lost = has_number d key.StartLost _ _ table (none kind.Shape key.StartLost) (none kind.Range key.StartLost);
        end_gain = has_number d key.EndGain _ _ table (none kind.Shape key.EndGain) (none kind.Range key.EndGain);
        max_green = has_number_or 300 d key.MaxGreen 1 300 (omega arith) (omega arith) (none kind.Range key.MaxGreen);
      };
    }

-- the same of a value that is read from the list
pub group_value : (document : Data) → IsFaultless document → (values : List Value) (k : ℕ) (value : Value) →
    map view values ≡ groups_in document → k < length values → value ≡ get_or values k value → IsGroupElement (view value)
group_value document faultless values k value same inside read =
    group_element document faultless k (view value) (view_at values (groups_in document) k value same inside read)

has_name_true : (name : List ℕ) (d : Data) → text_in d key.Name ≡ Some name → has_name name d ≡ true
has_name_true name d e = (bytes_eq-Decides (text_of d key.Name) name).1 (rw e refl)

first_at : {X : Type 0} (p : X → Bool) (xs : List X) (i : ℕ) → position_or_len p xs ≡ i → i < length xs → position p xs ≡ Some i
first_at p xs i e inside = rw e (grind arith)

first_before : {X : Type 0} (p : X → Bool) (xs : List X) (k : ℕ) (d : X) → p (get_or xs k d) ≡ true → position_or_len p xs ≤ k
first_before p xs k d passes = elim (cases_lt k (position_or_len p xs)) [
  | inl less ↦ absurd (false≢true (sym (fails_before_first p xs k d less) ∙ passes))
  | inr more ↦ more
]

name_of_some : (document : Data) → IsFaultless document → (name : List ℕ) → Any (IsNamed name) (groups_in document) → IsGroupName document name
name_of_some document faultless name (k, d, inside, at, named) =
    let groups = groups_in document in
    let passes : has_name name (get_or groups k d) ≡ true = rw at (has_name_true name d named) in
    let i = position_or_len (has_name name) groups in
    let before : i ≤ k = first_before (has_name name) groups k d passes in
    let first = first_at (has_name name) groups i refl (omega arith) in
    let facts = position-Some (has_name name) groups i d first in
    let found = slice_get-get_or groups i d facts.0 in
    let label = (group_element document faultless i (get_or groups i d) found).label in
    let same = (bytes_eq-Decides (text_of (get_or groups i d) key.Name) name).0 facts.1 in
    let count = count_groups document faultless in
    record { group = get_or groups i d; found = rw first found; named = label.text ∙ ap Some same; small = rw first (omega arith) }

-- a name that isn't unknown is a group's
pub group_name : (document : Data) → IsFaultless document → (name : List ℕ) → ¬ ¬ Any (IsNamed name) (groups_in document) → IsGroupName document name
group_name document faultless name known =
    name_of_some document faultless name (some_of (IsNamed name) (λ d. is_text (text_in d key.Name) name) (groups_in document) known)

pub reference_at : (document : Data) → IsFaultless document → (d : Data) (k : Key) → text_in d k ≡ Some (text_of d k) → ¬ IsUnknown document (text_in d k) →
    HasReference document d k
reference_at document faultless d k text known =
    record { text = text; group = group_name document faultless (text_of d k) (rw text at known) }

-- two names with one number are the same
pub same_name : (document : Data) (s t : List ℕ) → IsGroupName document s → IsGroupName document t → group_number document s ≡ group_number document t → s ≡ t
same_name document s t g h e =
    let same : g.group ≡ h.group = same_Some g.group h.group (sym g.found ∙ ap (slice_get (groups_in document)) e ∙ h.found) in
    same_Some s t (sym g.named ∙ ap (λ d. text_in d key.Name) same ∙ h.named)

-- no two groups have one name
pub names_differ : (document : Data) → IsFaultless document → (i j : ℕ) (d e : Data) → i < j → slice_get (groups_in document) i ≡ Some d →
    slice_get (groups_in document) j ≡ Some e → text_of d key.Name ≢ text_of e key.Name
names_differ document faultless i j d e less first last same =
    let none = none_at document faultless part.Group (j + 1) e (group_place document j e last) kind.Name key.Name in
    (rw (group_element document faultless j e last).label.text at none)
    (inr (any_before _ (groups_in document) j i d e less last first ((group_element document faultless i d first).label.text ∙ ap Some same)))

-- the number of a group's name is the group's
pub number_of_name : (document : Data) → IsFaultless document → (i : ℕ) (d : Data) → slice_get (groups_in document) i ≡ Some d →
    group_number document (text_of d key.Name) ≡ i
number_of_name document faultless i d found =
    let groups = groups_in document in
    let name = text_of d key.Name in
    let inside = slice_get_within groups i d found in
    let here : has_name name (get_or groups i d) ≡ true = rw (get_or_from_slice_get groups i d d found) ((bytes_eq-Decides name name).1 refl) in
    let other : (k : ℕ) → k < i → has_name name (get_or groups k d) ≡ false = λ k less. false_from_ne_true _ (λ passes.
    names_differ document faultless k i (get_or groups k d) d less (slice_get-get_or groups k d (omega arith)) found
    ((bytes_eq-Decides (text_of (get_or groups k d) key.Name) name).0 passes)) in
    let at = position_or_len_is (has_name name) groups i d (omega arith) other (λ _. here) in
    rw (first_at (has_name name) groups i at inside) refl

gain_within : (m n : ℕ) → ¬ (pos m <ℤ pos n) → n ≤ m
gain_within m n h = not_below m n (λ less. h (omega (arith, ints)))

effective : (lost gain green : ℕ) → ¬ ((pos green +ℤ pos gain) ≤ℤ pos lost) → lost < green + gain
effective lost gain green h = elim (cases_lt lost (green + gain)) [
  | inl less ↦ less
  | inr more ↦ absurd (h (omega (arith, ints)))
]

most_enough : (d : Data) (o : Option ℤ) → whole_in d key.MaxGreen ≡ o → HasNumberOr 300 d key.MaxGreen 1 300 → HasNumber d key.MinGreen 1 120 →
    ¬ IsSomeAnd (whole_in d key.MaxGreen) (λ most. IsSomeAnd (whole_in d key.MinGreen) (λ least. most <ℤ least)) →
    number_of d key.MinGreen ≤ number_or 300 d key.MaxGreen
most_enough d None e most least none = let few = least.greatest in rw e (omega arith)
most_enough d (Some z) e most least none =
    let same : z ≡ pos (natural z) = rw e at most.whole in
    rw e (gain_within (natural z) (number_of d key.MinGreen) (rw (e, least.whole, same) at none))

group_rules : (document : Data) → IsFaultless document → (k : ℕ) (d : Data) → slice_get (groups_in document) k ≡ Some d → IsGroup (group_of d)
group_rules document faultless k d found =
    let times = (group_element document faultless k d found).times in
    let none = none_at document faultless part.Group (k + 1) d (group_place document k d found) in
    record {
      label = (group_element document faultless k d found).label.label;
      times = record {
        shown = times.min_green.least;
        min_green = times.min_green.greatest;
        amber = times.amber.greatest;
        red_amber = times.red_amber.greatest;
        lost_and_gained = (times.start_lost.greatest, times.end_gain.greatest);
        max_green = (times.max_green.least, times.max_green.greatest);
      };
      gained_in_amber = gain_within _ _ (rw (times.end_gain.whole, times.amber.whole) at (none kind.EndGain key.EndGain));
      some_effective = effective _ _ _ (rw (times.start_lost.whole, times.end_gain.whole, times.min_green.whole) at (none kind.NoEffective key.StartLost));
      not_below = most_enough d (whole_in d key.MaxGreen) refl times.max_green times.min_green (none kind.MaxGreen key.MaxGreen);
    }

pub are_groups : (document : Data) → IsFaultless document → AreGroups (map group_of (groups_in document))
are_groups document faultless =
    let count = count_groups document faultless in
    record {
      several = rw length-map count.0;
      few = rw length-map count.1;
      each = all_of_map group_of IsGroup (groups_in document) (group_rules document faultless);
      distinct = pairs_of_map group_of (λ (a b : Group). a.label ≢ b.label) (groups_in document)
          (λ i j d e less first last. names_differ document faultless i j d e less first last);
    }
