-- The names, keys and numbers of a printed document.
use Rattle.std.proofs.Common.{ℕ, List, Some, AllPairs, Any, IsSomeAnd, length, slice_get, ◌≡◌, ◌≢◌, ◌+◌, ◌<◌, ◌≤◌, inl, inr, sym, ap, ◌∙◌, arith, refl, pos, Bool, true, ◌&&◌, [], ◌∷◌, map, ◌⊎◌, ◌<ℤ◌}
use Rattle.std.proofs.lemmas.Bool.{and_parts}
use Rattle.std.proofs.lemmas.Option.{slice_get-get_or, get_or_from_slice_get, slice_get_cases, same_Some}
use Rattle.toml.specs.Data.{Data, Members, integer, table}
use Rattle.junction_model.specs.Junction.{JunctionView}
use Rattle.junction_model.specs.Rules.{IsJunction}
use Rattle.junction_files.specs.Document.{groups_in, value_in, text_in, whole_in, word_of, part_keys}
use Rattle.junction_files.specs.Printing.{tables, group_members, printed_version, label_at}
use Rattle.junction_files.proofs.Elements.{any_at, one_place, pair_at, any_rest}
use Rattle.junction_model.specs.declared.group.Group.{Group}
use Rattle.junction_files.specs.Faults.{IsNamed, IsOtherWord, IsWrongLabel}
use Rattle.std.specs.List.{list_any}
use Rattle.std.specs.Str.{bytes_eq}
use Rattle.std.proofs.lemmas.List.Folds.{Any-from_list_any}
use Rattle.std.proofs.lemmas.Slice.Eq.{bytes_eq-Decides}
use Rattle.std.proofs.lemmas.Int.{ints}
use Rattle.sig_base.specs.Text.{IsLabel}
use Rattle.junction_files.specs.declared.document.Version.{Version}
use Rattle.junction_files.specs.declared.faults.Part.{Part}
use Rattle.junction_files.specs.declared.faults.Key.{Key}
use Rattle.junction_files.specs.declared.faults.Key.TheVariants as key
use Rattle.junction_files.proofs.PrintedDocument.{document_of, group_list, group_label, table_at, origin_before}

pub group_here : (groups : List Group) (i : ℕ) → i < length groups → (g : Group) × (slice_get groups i ≡ Some g)
group_here groups i inside = elim (slice_get_cases groups i).1 [
  | inl (g, within, found, same) ↦ (g, found)
  | inr (past, missing) ↦ absurd (omega arith)
]

pub label_here : (groups : List Group) (i : ℕ) (g : Group) → slice_get groups i ≡ Some g → label_at groups i ≡ g.label
label_here groups i g found = rw found refl

-- it names a group
pub label_names_group : (j : JunctionView) (i : ℕ) → i < length j.groups → Any (IsNamed (label_at j.groups i)) (groups_in (document_of j))
label_names_group j i inside =
    let here = group_here j.groups i inside in
    rw group_list (any_at (IsNamed (label_at j.groups i)) _ i _ (table_at (group_members (printed_version j)) j.groups i here.0 here.1)
    (rw (label_here j.groups i here.0 here.1) (group_label (printed_version j) here.0)))

-- it names one group
pub same_group : (j : JunctionView) → IsJunction j → (i k : ℕ) → i < length j.groups → k < length j.groups →
    label_at j.groups i ≡ label_at j.groups k → i ≡ k
same_group j p i k first last same =
    let g = group_here j.groups i first in
    let h = group_here j.groups k last in
    one_place (λ (e : Group). e.label) j.groups i k g.0 h.0 p.groups.distinct g.1 h.1
    (rw (label_here j.groups i g.0 g.1, label_here j.groups k h.0 h.1) at same)

-- whether each word is a listed key
abbrev pub are_keys : Part → Version → List (List ℕ) → Bool
are_keys p v [] = true
are_keys p v (word ∷ words) = list_any (bytes_eq word) (map word_of (part_keys p v)) && are_keys p v words

pub no_other_word : (p : Part) (v : Version) (words : List (List ℕ)) → are_keys p v words ≡ true → ¬ Any (IsOtherWord p v) words
no_other_word p v [] facts any = omega (arith, any.2)
no_other_word p v (word ∷ words) facts any =
    let listed = map word_of (part_keys p v) in
    let parts = and_parts (list_any (bytes_eq word) listed) (are_keys p v words) facts in
    let (k, found, inside, at, same) = Any-from_list_any (bytes_eq word) listed parts.0 in
    let here = get_or_from_slice_get listed k found word (slice_get-get_or listed k found inside ∙ ap Some at) in
    no_other_word p v words parts.1 (any_rest (IsOtherWord p v) word words (λ other. other (k, inside, here ∙ sym ((bytes_eq-Decides word found).0 same))) any)

pub in_bounds : (n low high : ℕ) → low ≤ n → n ≤ high → ¬ ((pos n <ℤ pos low) ⊎ (pos high <ℤ pos n))
in_bounds n low high least greatest (inl less) = omega (arith, ints)
in_bounds n low high least greatest (inr more) = omega (arith, ints)

-- a printed number of its range
pub in_range_at : (d : Data) (k : Key) (n low high : ℕ) → value_in d k ≡ Some (integer (pos n)) → low ≤ n → n ≤ high →
    ¬ IsSomeAnd (whole_in d k) (λ z. (z <ℤ pos low) ⊎ (pos high <ℤ z))
in_range_at d k n low high e least greatest wrong = in_bounds n low high least greatest (rw e at wrong)

-- a label that keeps its rule and differs from all others
pub good_label : {X : Type 0} (label : X → List ℕ) (f : X → Members) → ((x : X) → text_in (table (f x)) key.Name ≡ Some (label x)) → (xs : List X) →
    AllPairs (λ a b. label a ≢ label b) xs → (k : ℕ) (x : X) → slice_get xs k ≡ Some x → IsLabel (label x) →
    ¬ IsWrongLabel (tables f xs) (k + 1) (table (f x))
good_label label f named xs distinct k x found kept wrong = elim (rw named at wrong) [
  | inl broken ↦ broken kept
  | inr any ↦
      let before = origin_before f (IsNamed (label x)) xs k any in
      pair_at (λ a b. label a ≢ label b) xs before.0 k before.1 x distinct before.2 before.3 found
      (same_Some _ _ (rw named at before.4))
]
