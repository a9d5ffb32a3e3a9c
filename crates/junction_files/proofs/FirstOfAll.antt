-- A document has a first fault, or none.
use Rattle.std.proofs.Common.{ℕ, zero, suc, List, Some, IsSomeAnd, length, get_or, slice_get, ◌∷◌, ◌≡◌, ◌<◌, ◌+◌, ◌⊎◌, inl, inr, refl, sym, ap, ◌∙◌, subst, arith}
use Rattle.std.proofs.Math.Dec.{eqb-suc-zero}
use Rattle.std.proofs.lemmas.Bool.{cases_lt, cases_order}
use Rattle.std.proofs.lemmas.List.{get_or_past}
use Rattle.std.proofs.lemmas.Option.{slice_get_cases, same_Some, none-some}
use Rattle.toml.specs.Data.{Data}
use Rattle.junction_files.specs.Document.{element_at, elements_in}
use Rattle.junction_files.specs.Faults.{Fault, Stands, IsWrong}
use Rattle.junction_files.specs.FaultOrder.{kind_number, part_number, key_number}
use Rattle.junction_files.specs.FirstFault.{all_kinds, all_parts, all_keys, fault_at, NoKey, IsFirstKey, IsListOf, NoneIn, IsFirstIn, NoneOf, IsFirstOf, IsFirstFault}
use Rattle.junction_files.specs.declared.faults.spot.Spot.{Spot}
use Rattle.junction_files.specs.declared.faults.Kind.{Kind}
use Rattle.junction_files.specs.declared.faults.Part.{Part}
use Rattle.junction_files.specs.declared.faults.Key.{Key}
use Rattle.junction_files.proofs.DecidedFaults.{is_wrong}
use Rattle.junction_files.proofs.Decisions.{Decided}
use Rattle.junction_files.proofs.ElementAt.{some_at}
use Rattle.junction_files.proofs.FaultOrder.{part_at, kind_at, key_at, part_number_at, kind_number_at}
use Rattle.junction_files.proofs.FirstFault.{first_key, first_in_list, none_in_list, first_of_parts, first_of_kinds}
use Rattle.junction_files.specs.declared.faults.Kind.TheVariants as kind
use Rattle.junction_files.specs.declared.faults.Part.TheVariants as part
use Rattle.junction_files.specs.declared.faults.Key.TheVariants as key

-- the first number below n with the one fact, or the other fact of all
record IsFirstWith (A N : ℕ → Type 0) (n : ℕ) : Type 0 where
  number : ℕ
  below : number < n
  here : A number
  before : (j : ℕ) → j < number → N j

first_or_none : (A N : ℕ → Type 0) → ((i : ℕ) → A i ⊎ N i) → (n : ℕ) → IsFirstWith A N n ⊎ ((i : ℕ) → i < n → N i)
first_or_none A N each zero = inr (λ i below. absurd (omega arith))
first_or_none A N each (suc n) = elim (first_or_none A N each n) [
  | inl found ↦ let less = found.below in inl (record { number = found.number; below = omega arith; here = found.here; before = found.before })
  | inr none ↦ elim (each n) [
    | inl here ↦ inl (record { number = n; below = omega arith; here = here; before = none })
    | inr not_here ↦ inr (λ i below. elim (cases_order i n) [
      | inl same ↦ subst N (sym same) not_here
      | inr (inl less) ↦ none i less
      | inr (inr more) ↦ absurd (omega arith)
    ])
  ]
]

key_below : (k : Key) → key_number k < 26
key_below k = elim (cases_lt (key_number k) 26) [
  | inl less ↦ less
  | inr past ↦
      let whole : key.Whole ≡ k = sym (get_or_past all_keys (key_number k) key.Whole past) ∙ key_at k in
      let none : key_number key.Whole ≡ key_number k = ap key_number whole in
      absurd (omega arith)
]

part_below : (p : Part) → part_number p < 5
part_below p = elim (cases_lt (part_number p) 5) [
  | inl less ↦ less
  | inr past ↦
      let top : part.Top ≡ p = sym (get_or_past all_parts (part_number p) part.Top past) ∙ part_at p in
      let none : part_number part.Top ≡ part_number p = ap part_number top in
      absurd (omega arith)
]

-- the kinds at their numbers
abbrev numbered_kind : ℕ → Kind
numbered_kind i = get_or (kind.NotToml ∷ all_kinds) i kind.NotToml

kind_below : (k : Kind) → kind_number k < 18
kind_below k = elim (cases_lt (kind_number k) 18) [
  | inl less ↦ less
  | inr past ↦
      let first : kind.NotToml ≡ k = sym (get_or_past (kind.NotToml ∷ all_kinds) (kind_number k) kind.NotToml past) ∙ kind_at k in
      let one : kind_number kind.NotToml ≡ kind_number k = ap kind_number first in
      absurd (omega arith)
]

keys : (broken : Key → Type 0) → ((k : Key) → Decided (broken k)) → ((k : Key) × IsFirstKey broken k) ⊎ NoKey broken
keys broken each =
    let at = λ (i : ℕ). get_or all_keys i key.Whole in
    elim (first_or_none (λ i. broken (at i)) (λ i. ¬ broken (at i)) (λ i. each (at i)) 26) [
      | inl found ↦ inl (
        at found.number,
        first_key broken found.number found.below (λ k less wrong. found.before (key_number k) less (subst broken (sym (key_at k)) wrong)) found.here,
      )
      | inr none ↦ inr (λ k wrong. none (key_number k) (key_below k) (subst broken (sym (key_at k)) wrong))
    ]

-- the first fault of a kind at an element of a list
record IsFirstAt (document : Data) (k : Kind) (p : Part) (ds : List Data) (i : ℕ) : Type 0 where
  element : Data
  key : Key
  found : slice_get ds i ≡ Some element
  first : IsFirstKey (IsWrong document k p (i + 1) element) key

abbrev NoneAt : Data → Kind → Part → List Data → ℕ → Type 0
NoneAt document k p ds i = (d : Data) → slice_get ds i ≡ Some d → NoKey (IsWrong document k p (i + 1) d)

at_element : (document : Data) (k : Kind) (p : Part) (ds : List Data) (i : ℕ) → IsFirstAt document k p ds i ⊎ NoneAt document k p ds i
at_element document k p ds i = elim (slice_get_cases ds i).1 [
  | inl (d, within, found, same) ↦ elim (keys (IsWrong document k p (i + 1) d) (is_wrong document k p (i + 1) d)) [
    | inl first ↦ inl (record { element = d; key = first.0; found = found; first = first.1 })
    | inr none ↦ inr (λ e there. subst (λ x. NoKey (IsWrong document k p (i + 1) x)) (same_Some d e (sym found ∙ there)) none)
  ]
  | inr (past, missing) ↦ inr (λ e there. absurd (none-some e (sym missing ∙ there)))
]

in_list : (document : Data) (k : Kind) (p : Part) (list : Key) → IsListOf document p list → ((s : Spot) × IsFirstIn document k p s) ⊎ NoneIn document k p
in_list document k p list are =
    let ds = elements_in document list in
    elim (first_or_none (IsFirstAt document k p ds) (NoneAt document k p ds) (at_element document k p ds) (length ds)) [
      | inl found ↦ inl (
        record { part = p; index = found.number + 1; key = found.here.key },
        first_in_list document k p list are found.number found.here.element found.here.key found.here.found found.here.first
            (λ n d l less there. found.before n less d there l),
      )
      | inr none ↦ inr (none_in_list document k p list are (length ds) (omega arith) (λ n d l less there. none n less d there l))
    ]

top_only : (document : Data) (k : Kind) (n : ℕ) (l : Key) → IsSomeAnd (element_at document part.Top n) (λ d. IsWrong document k part.Top n d l) →
    (n ≡ 0) × IsWrong document k part.Top 0 document l
top_only document k zero l wrong = (refl, wrong)
top_only document k (suc n) l wrong = absurd (rw eqb-suc-zero at wrong)

at_top : (document : Data) (k : Kind) → ((s : Spot) × IsFirstIn document k part.Top s) ⊎ NoneIn document k part.Top
at_top document k = elim (keys (IsWrong document k part.Top 0 document) (is_wrong document k part.Top 0 document)) [
  | inl (l, first) ↦ inl (
    record { part = part.Top; index = 0; key = l },
    record {
      within = refl;
      stands = first.stands;
      first = λ g same within stands.
          let there = top_only document k g.index g.key (rw (same, within) at stands) in
          inr (ap kind_number (sym same), inr (ap part_number (sym within), inr (sym there.0, first.first g.key there.1)));
    },
  )
  | inr none ↦ inr (λ f same within stands. none f.key (top_only document k f.index f.key (rw (same, within) at stands)).1)
]

in_part : (document : Data) (k : Kind) (p : Part) → ((s : Spot) × IsFirstIn document k p s) ⊎ NoneIn document k p
in_part document k part.Top = at_top document k
in_part document k part.Group = in_list document k part.Group key.Group (λ n. refl)
in_part document k part.Lane = in_list document k part.Lane key.Lane (λ n. refl)
in_part document k part.Conflict = in_list document k part.Conflict key.Conflict (λ n. refl)
in_part document k part.Link = in_list document k part.Link key.Link (λ n. refl)

of_kind : (document : Data) (k : Kind) → ((s : Spot) × IsFirstOf document (fault_at k s)) ⊎ NoneOf document k
of_kind document k =
    let at = λ (i : ℕ). get_or all_parts i part.Top in
    elim (first_or_none (λ i. (s : Spot) × IsFirstIn document k (at i) s) (λ i. NoneIn document k (at i)) (λ i. in_part document k (at i)) 5) [
      | inl found ↦ inl (
        found.here.0,
        first_of_parts document k (at found.number) found.here.0 found.here.1
            (λ f same less stands. found.before (part_number f.part) (rw (part_number_at found.number found.below) at less) f same (sym (part_at f.part)) stands),
      )
      | inr none ↦ inr (λ f same stands. none (part_number f.part) (part_below f.part) f same (sym (part_at f.part)) stands)
    ]

first_numbered : (document : Data) (i : ℕ) (s : Spot) → i < 18 → IsFirstOf document (fault_at (numbered_kind i) s) →
    ((j : ℕ) → j < i → NoneOf document (numbered_kind j)) → IsFirstFault document (fault_at (numbered_kind i) s)
first_numbered document zero s below first none = absurd (some_at (element_at document s.part s.index) (λ d. ⊥) first.stands).2
first_numbered document (suc i) s below first none = first_of_kinds document (numbered_kind (suc i)) s first (λ f less stands.
    none (kind_number f.kind) (let own = kind_number_at i (omega arith) in omega (arith, own, less)) f (sym (kind_at f.kind)) stands)

pub first_fault : (document : Data) → ((f : Fault) × IsFirstFault document f) ⊎ ((f : Fault) → ¬ Stands document f)
first_fault document =
    elim (first_or_none (λ i. (s : Spot) × IsFirstOf document (fault_at (numbered_kind i) s)) (λ i. NoneOf document (numbered_kind i))
    (λ i. of_kind document (numbered_kind i)) 18) [
      | inl found ↦ inl (fault_at (numbered_kind found.number) found.here.0, first_numbered document found.number found.here.0 found.below found.here.1 found.before)
      | inr none ↦ inr (λ f stands. none (kind_number f.kind) (kind_below f.kind) f (sym (kind_at f.kind)) stands)
    ]
