-- The elements of a document, as values and as data.
use Rattle.std.proofs.Common.{◌≡◌, List, [], ◌∷◌, refl, ap, arith, zero, suc, map, sym, subst, Any, String, string_bytes, ℕ, length, Some, get_or, slice_get, ◌+◌, ◌-◌, ◌<◌, ◌∙◌, add-one, sub-one, ◌↔◌, Bool, IsTrue, inl, inr, All, rules, nat_eq, false, Option, None}
use Rattle.toml.specs.Data.{Data}
use Rattle.toml.specs.View.{items_of, members_view, table_view, view}
use Rattle.junction_files.specs.Document.{elements, words_in, groups_in, lanes_in, conflicts_in, links_in, element_at, counted_from_one}
use Rattle.std.specs.BTreeMap.{BTreeMap, keys}
use Rattle.std.specs.declared.alloc.Global.{Global}
use Rattle.toml.specs.declared.value.Value.{Value}
use Rattle.std.proofs.Math.Dec.{eqb-suc-zero}
use Rattle.std.proofs.lemmas.List.{get_or-map, length-map}
use Rattle.std.proofs.lemmas.Option.{slice_get-map, slice_get_read, slice_get_cases}
use Rattle.std.proofs.lemmas.List.Elements.{All-map}
use Rattle.std.proofs.lemmas.Bool.Decides.{nat_tests}
use Rattle.std.specs.Prelude.{slice_get, IsSomeAnd}
use Rattle.junction_files.specs.declared.faults.Part.TheVariants as part

pub elements-items_of : (ds : List Data) → elements (items_of ds) ≡ ds
elements-items_of [] = refl
elements-items_of (d ∷ ds) = ap (λ (es : List Data). d ∷ es) (elements-items_of ds)

words-members_view : (es : List (String Global × Value)) → words_in (members_view es) ≡ map string_bytes (map (λ (e : String Global × Value). e.0) es)
words-members_view [] = refl
words-members_view (e ∷ es) = ap (λ ws. string_bytes e.0 ∷ ws) (words-members_view es)

pub words-table_view : (table : BTreeMap (String Global) Value) → words_in (table_view table) ≡ map string_bytes (keys table)
words-table_view table = words-members_view table.entries

pub group_place : (document : Data) (k : ℕ) (d : Data) → slice_get (groups_in document) k ≡ Some d → element_at document part.Group (k + 1) ≡ Some d
group_place document k d e = rw (add-one, sub-one, eqb-suc-zero) e

pub lane_place : (document : Data) (k : ℕ) (d : Data) → slice_get (lanes_in document) k ≡ Some d → element_at document part.Lane (k + 1) ≡ Some d
lane_place document k d e = rw (add-one, sub-one, eqb-suc-zero) e

pub conflict_place : (document : Data) (k : ℕ) (d : Data) → slice_get (conflicts_in document) k ≡ Some d → element_at document part.Conflict (k + 1) ≡ Some d
conflict_place document k d e = rw (add-one, sub-one, eqb-suc-zero) e

pub link_place : (document : Data) (k : ℕ) (d : Data) → slice_get (links_in document) k ≡ Some d → element_at document part.Link (k + 1) ≡ Some d
link_place document k d e = rw (add-one, sub-one, eqb-suc-zero) e

-- an element that is read from a list of values
pub view_at : (values : List Value) (ds : List Data) (k : ℕ) (value : Value) → map view values ≡ ds → k < length values →
    value ≡ get_or values k value → slice_get ds k ≡ Some (view value)
view_at values ds k value same inside read = rw (← same, slice_get-map view values k, slice_get_read values (length values) k value refl inside read) refl

any_view : (P : Data → Type 0) (xs : List Value) → Any (λ (v : Value). P (view v)) xs ↔ Any P (map view xs)
any_view P xs = (
  (λ (k, v, below, is, holds). (k, view v, rw length-map below, get_or-map view xs k v (view v) below ∙ ap view is, holds)),
  (λ (k, d, below, is, holds). elim (slice_get_cases xs k).1 [
    | inl (v, within, found, same) ↦ (k, v, within, same, subst P (sym is ∙ get_or-map view xs k v d within ∙ ap view same) holds)
    | inr (past, _) ↦ absurd (let short : k < length xs = rw length-map at below in omega arith)
  ]),
)

-- a test over the values answers what holds of the data
pub any_found : (P : Data → Type 0) (xs : List Value) (ds : List Data) (b : Bool) → map view xs ≡ ds →
    IsTrue b ↔ Any (λ (v : Value). P (view v)) xs → IsTrue b ↔ Any P ds
any_found P xs ds b e found = rw (← e) ((λ yes. (any_view P xs).0 (found.0 yes)), (λ some. found.1 ((any_view P xs).1 some)))

pub all_found : (P : Data → Type 0) (xs : List Value) (ds : List Data) (b : Bool) → map view xs ≡ ds →
    IsTrue b ↔ All (λ (v : Value). P (view v)) xs → IsTrue b ↔ All P ds
all_found P xs ds b e found = rw (← e) (
  (λ yes. All-map P view xs (found.0 yes)),
  (λ all. found.1 (λ k v below. rw (get_or-map view xs k v (view v) below) at (all k (view v) (rw length-map below)))),
)

-- an element of which something holds at its number
pub record IsAt (ds : List Data) (P : ℕ → Data → Type 0) (n : ℕ) : Type 0 where
  pub place : ℕ
  pub element : Data
  pub counted : n ≡ place + 1
  pub found : slice_get ds place ≡ Some element
  pub holds : P (place + 1) element

pub some_at : (o : Option Data) (P : Data → Type 0) → IsSomeAnd o P → (d : Data) × (o ≡ Some d) × P d
some_at None P s = absurd s
some_at (Some d) P s = (d, refl, s)

pub counted_next : (ds : List Data) (i : ℕ) → counted_from_one ds (i + 1) ≡ slice_get ds i
counted_next ds i = let less : (i + 1) - 1 ≡ i = omega arith in let some : nat_eq (i + 1) 0 ≡ false = search (rules, nat_tests) in rw (some, less) refl

pub from_counted : (ds : List Data) (P : ℕ → Data → Type 0) (n : ℕ) → IsSomeAnd (counted_from_one ds n) (P n) → IsAt ds P n
from_counted ds P zero s = absurd s
from_counted ds P (suc i) s =
    let at_next : IsSomeAnd (counted_from_one ds (i + 1)) (P (i + 1)) = rw add-one s in
    let found = some_at _ _ (rw counted_next at at_next) in
    record { place = i; element = found.0; counted = sym (add-one i); found = found.1; holds = found.2 }
