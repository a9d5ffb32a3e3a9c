-- The first fault of a list, of the parts and of the kinds.
use Rattle.std.proofs.Common.{arith, ℕ, ◌+◌, ◌<◌, ◌≤◌, ◌≡◌, List, Some, length, refl, sym, ap, subst, get_or, inl, inr, ◌∙◌}
use Rattle.std.proofs.lemmas.Option.{slice_get_within, same_Some}
use Rattle.std.proofs.lemmas.Bool.{cases_lt, cases_order}
use Rattle.std.specs.Prelude.{slice_get}
use Rattle.toml.specs.Data.{Data}
use Rattle.junction_files.specs.Document.{elements_in}
use Rattle.junction_files.specs.Faults.{Fault, Stands, IsWrong}
use Rattle.junction_files.specs.FaultOrder.{kind_number, part_number, key_number, IsEarlierOr}
use Rattle.junction_files.specs.FirstFault.{all_keys, IsFirstOf, IsFirstFault, NoKey, IsFirstKey, IsListOf, IsFirstIn, NoneIn, fault_at}
use Rattle.junction_files.specs.declared.faults.Kind.{Kind}
use Rattle.junction_files.specs.declared.faults.Part.{Part}
use Rattle.junction_files.specs.declared.faults.Key.{Key}
use Rattle.junction_files.specs.declared.faults.spot.Spot.{Spot}
use Rattle.junction_files.proofs.FaultOrder.{same_part, same_kind, same_key, key_number_at}
use Rattle.junction_files.proofs.ElementAt.{IsAt, counted_next, from_counted}
use Rattle.junction_files.specs.declared.faults.Key.TheVariants as key

-- a key that breaks the rule, where none before it does
pub first_key : (broken : Key → Type 0) (i : ℕ) → i < 26 → ((k : Key) → key_number k < i → ¬ broken k) → broken (get_or all_keys i key.Whole) →
    IsFirstKey broken (get_or all_keys i key.Whole)
first_key broken i below none holds = record {
  stands = holds;
  first = λ l wrong. elim (cases_lt (key_number l) i) [
    | inl earlier ↦ absurd (none l earlier wrong)
    | inr later ↦ omega (arith, key_number_at i below, later)
  ];
}

-- one more key that doesn't
pub no_key_more : (broken : Key → Type 0) (i : ℕ) → i < 26 → ((k : Key) → key_number k < i → ¬ broken k) → ¬ broken (get_or all_keys i key.Whole) →
    (k : Key) → key_number k < i + 1 → ¬ broken k
no_key_more broken i below none here k less wrong = elim (cases_lt (key_number k) i) [
  | inl earlier ↦ none k earlier wrong
  | inr later ↦
      let now : key_number k ≡ key_number (get_or all_keys i key.Whole) = omega (arith, key_number_at i below, later, less) in
      here (subst broken (same_key _ _ now) wrong)
]

-- no rule of the kind is broken before an element
abbrev pub NoneBefore : Data → Kind → Part → List Data → ℕ → Type 0
NoneBefore document k p ds i = (n : ℕ) (d : Data) (l : Key) → n < i → slice_get ds n ≡ Some d → ¬ IsWrong document k p (n + 1) d l

pub none_more : (document : Data) (k : Kind) (p : Part) (ds : List Data) (i : ℕ) (d : Data) → slice_get ds i ≡ Some d →
    NoKey (IsWrong document k p (i + 1) d) → NoneBefore document k p ds i → NoneBefore document k p ds (i + 1)
none_more document k p ds i d at here before n e l below found wrong = elim (cases_order n i) [
  | inl now ↦
      let same : e ≡ d = same_Some _ _ (sym found ∙ rw now at) in
      here l (rw (← now, ← same) wrong)
  | inr (inl earlier) ↦ before n e l earlier found wrong
  | inr (inr later) ↦ absurd (omega arith)
]

-- what stands in a list stands at one of its elements
pub element_of_fault : (document : Data) (k : Kind) (p : Part) (list : Key) → IsListOf document p list → (f : Fault) → f.kind ≡ k → f.part ≡ p → Stands document f →
    IsAt (elements_in document list) (λ n d. IsWrong document k p n d f.key) f.index
element_of_fault document k p list are f same within stands =
    from_counted _ (λ n d. IsWrong document k p n d f.key) f.index (rw are at (rw (same, within) at stands))

pub stands_in_list : (document : Data) (k : Kind) (p : Part) (list : Key) → IsListOf document p list →
    (i : ℕ) (d : Data) (l : Key) → slice_get (elements_in document list) i ≡ Some d → IsWrong document k p (i + 1) d l →
    Stands document (record { kind = k; part = p; index = i + 1; key = l })
stands_in_list document k p list are i d l found wrong = rw (are, counted_next, found) wrong

pub none_in_list : (document : Data) (k : Kind) (p : Part) (list : Key) → IsListOf document p list → (i : ℕ) → length (elements_in document list) ≤ i →
    NoneBefore document k p (elements_in document list) i → NoneIn document k p
none_in_list document k p list are i past none f same within stands =
    let at = element_of_fault document k p list are f same within stands in
    let below : at.place < length (elements_in document list) = slice_get_within _ _ _ at.found in
    none at.place at.element f.key (omega arith) at.found at.holds

order_in_list : (document : Data) (k : Kind) (p : Part) (ds : List Data) (i : ℕ) (d : Data) (l : Key) → slice_get ds i ≡ Some d →
    IsFirstKey (IsWrong document k p (i + 1) d) l → NoneBefore document k p ds i →
    (n : ℕ) (m : Key) → IsAt ds (λ n d. IsWrong document k p n d m) n → IsEarlierOr (i + 1) n (key_number l ≤ key_number m)
order_in_list document k p ds i d l found key none n m at = elim (cases_order i at.place) [
  | inl e ↦
      let same : d ≡ at.element = same_Some _ _ (sym found ∙ rw (← e) at at.found) in
      let holds : IsWrong document k p (i + 1) d m = rw (e, same) at.holds in
      inr (rw e (sym at.counted), key.first m holds)
  | inr (inl before) ↦ let counted = at.counted in inl (omega arith)
  | inr (inr after) ↦ absurd (none at.place at.element m after at.found at.holds)
]

pub first_in_list : (document : Data) (k : Kind) (p : Part) (list : Key) → IsListOf document p list →
    (i : ℕ) (d : Data) (l : Key) → slice_get (elements_in document list) i ≡ Some d → IsFirstKey (IsWrong document k p (i + 1) d) l →
    NoneBefore document k p (elements_in document list) i → IsFirstIn document k p (record { part = p; index = i + 1; key = l })
first_in_list document k p list are i d l found key none = record {
  within = refl;
  stands = stands_in_list document k p list are i d l found key.stands;
  first = λ g same within stands.
      let at : IsAt (elements_in document list) (λ n d. IsWrong document k p n d g.key) g.index = element_of_fault document k p list are g same within stands in
      inr (ap kind_number (sym same), inr (ap part_number (sym within), order_in_list document k p _ i d l found key none g.index g.key at));
}

pub first_of_parts : (document : Data) (k : Kind) (p : Part) (s : Spot) → IsFirstIn document k p s →
    ((f : Fault) → f.kind ≡ k → part_number f.part < part_number p → ¬ Stands document f) → IsFirstOf document (fault_at k s)
first_of_parts document k p s first none = record {
  stands = first.stands;
  first = λ g same stands. elim (cases_order (part_number p) (part_number g.part)) [
    | inl e ↦ first.first g same (same_part _ _ (sym e)) stands
    | inr (inl before) ↦ inr (ap kind_number (sym same), inl (rw first.within before))
    | inr (inr after) ↦ absurd (none g same after stands)
  ];
}

pub first_of_kinds : (document : Data) (k : Kind) (s : Spot) → IsFirstOf document (fault_at k s) →
    ((f : Fault) → kind_number f.kind < kind_number k → ¬ Stands document f) → IsFirstFault document (fault_at k s)
first_of_kinds document k s first none = record {
  stands = first.stands;
  first = λ g stands. elim (cases_order (kind_number k) (kind_number g.kind)) [
    | inl e ↦ first.first g (same_kind _ _ (sym e)) stands
    | inr (inl before) ↦ inl before
    | inr (inr after) ↦ absurd (none g after stands)
  ];
}
