-- The fields of a record, one by one.
use Rattle.std.proofs.Common.{codes, ℕ, zero, suc, List, [], ◌∷◌, length, map, take, drop, set, Result, Ok, Some, None, decimal, ◌≡◌, ◌≢◌, ◌≤◌, ◌<◌, ◌+◌, slice_get, inl, inr, refl, sym, ap, ◌∙◌, subst, arith}
use Rattle.std.proofs.lemmas.Bool.{cases_lt}
use Rattle.std.proofs.lemmas.Option.{same_Some, slice_get_within, slice_get-map}
use Rattle.std.specs.Option.{option_map}
use Rattle.std.specs.Str.Parse.{ParsesUnsigned}
use Rattle.std.proofs.lemmas.Fmt.{parse-decimal, IsAscii-decimal}
use Rattle.std.proofs.lemmas.Str.{IsUtf8-from_ascii}
use Rattle.std.specs.Prelude.{IsUtf8}
use Rattle.csv.specs.Records.{field_at}
use Rattle.junction_model.specs.declared.group.Group.{Group}
use Rattle.junction_model.specs.Junction.{JunctionView}
use Rattle.aspect_player.specs.declared.aspect.Aspect.{Aspect}
use Rattle.aspect_player.specs.Lines.{word_of}
use Rattle.log_monitor.specs.Log.{Fields, header_of, most_second, HasAspects}
use Rattle.log_monitor.proofs.LongerRows.{element}
use Rattle.log_monitor.proofs.GroupMemories.{set_here, set_other, set_count}

pub field_is : (fields : Fields) (i : ℕ) → field_at fields i ≡ slice_get fields i
unfolding field_at
field_is [] i = refl
field_is (field ∷ fields) zero = refl
field_is (field ∷ fields) (suc i) = field_is fields i

-- the field after the first of these
field_next : (field : List ℕ) (fields : Fields) (k : ℕ) → field_at (field ∷ fields) (k + 1) ≡ slice_get fields k
field_next field fields k =
    let one : k + 1 ≡ suc k = omega arith in
    field_is (field ∷ fields) (k + 1) ∙ ap (slice_get (field ∷ fields)) one

pub field_some : (fields : Fields) (i : ℕ) → i < length fields → None ≡ field_at fields i → ⊥
field_some fields i h none = let there = element fields i h in let no : None ≡ Some there.0 = none ∙ field_is fields i ∙ there.1 in cc

-- the first field and the others
pub record_all : (fields : Fields) (first : List ℕ) (rest : Fields) → slice_get fields 0 ≡ Some first → drop 1 fields ≡ rest →
    fields ≡ first ∷ rest
record_all [] first rest at is = cc
record_all (field ∷ fields) first rest at is = ap (λ f. f ∷ fields) (same_Some field first at) ∙ ap (λ fs. first ∷ fs) is

pub count_one : (fields : Fields) (n : ℕ) → length fields ≡ n + 1 → length (drop 1 fields) ≡ n
count_one [] n h = absurd (omega arith)
count_one (field ∷ fields) n h = omega arith

pub words_count : (row : List Aspect) → length (map word_of row) ≡ length row
words_count [] = refl
words_count (aspect ∷ row) = omega (arith, words_count row)

-- ---- the header

abbrev pub HasNames : JunctionView → Fields → ℕ → Type 0
HasNames junction fields n = (k : ℕ) (group : Group) → k < n → slice_get junction.groups k ≡ Some group → field_at fields (k + 1) ≡ Some group.label

names_all : (fields : Fields) (groups : List Group) → length fields ≡ length groups →
    ((k : ℕ) (group : Group) → slice_get groups k ≡ Some group → slice_get fields k ≡ Some group.label) → fields ≡ map (λ (group : Group). group.label) groups
names_all [] [] size is = refl
names_all [] (group ∷ groups) size is = absurd (omega arith)
names_all (field ∷ fields) [] size is = absurd (omega arith)
names_all (field ∷ fields) (group ∷ groups) size is =
    let first : field ≡ group.label = same_Some field group.label (is 0 group refl) in
    let rest = names_all fields groups (omega arith) (λ k own at. is (suc k) own at) in
    ap (λ f. f ∷ fields) first ∙ ap (λ fs. group.label ∷ fs) rest

pub header_all : (junction : JunctionView) (fields : Fields) (n : ℕ) → length fields ≡ length junction.groups + 1 →
    field_at fields 0 ≡ Some (codes "second") →
    length junction.groups ≤ n → HasNames junction fields n → fields ≡ header_of junction
header_all junction [] n size first all names = absurd (omega arith)
header_all junction (field ∷ fields) n size first all names =
    let word : field ≡ codes "second" = same_Some field (codes "second") (sym (field_is (field ∷ fields) 0) ∙ first) in
    let rest = names_all fields junction.groups (omega arith)
    (λ k group at. sym (field_next field fields k) ∙ names k group (omega (arith, all, slice_get_within junction.groups k group at)) at) in
    ap (λ f. f ∷ fields) word ∙ ap (λ fs. codes "second" ∷ fs) rest

pub header_first : (junction : JunctionView) (fields : Fields) → fields ≡ header_of junction → field_at fields 0 ≡ Some (codes "second")
header_first junction fields e = field_is fields 0 ∙ ap (λ (fs : Fields). slice_get fs 0) e

pub header_name : (junction : JunctionView) (fields : Fields) (k : ℕ) (group : Group) → fields ≡ header_of junction →
    slice_get junction.groups k ≡ Some group → field_at fields (k + 1) ≡ Some group.label
header_name junction fields k group e there =
    ap (λ (fs : Fields). field_at fs (k + 1)) e ∙ field_next (codes "second") (map (λ (own : Group). own.label) junction.groups) k
    ∙ slice_get-map (λ (own : Group). own.label) junction.groups k ∙ ap (option_map (λ (own : Group). own.label)) there

pub names_more : (junction : JunctionView) (fields : Fields) (n : ℕ) (group : Group) → HasNames junction fields n →
    slice_get junction.groups n ≡ Some group →
    field_at fields (n + 1) ≡ Some group.label → HasNames junction fields (n + 1)
names_more junction fields n group names there new k own below own_is = elim (cases_lt k n) [
  | inl old ↦ names k own old own_is
  | inr rest ↦
      let same : n ≡ k = omega (arith, below, rest) in
      let same_group : group ≡ own = same_Some group own (sym there ∙ ap (slice_get junction.groups) same ∙ own_is) in
      ap (λ m. field_at fields (m + 1)) (sym same) ∙ new ∙ ap (λ (g : Group). Some g.label) same_group
]

-- ---- the aspects

abbrev pub HasWords : Fields → ℕ → List Aspect → Type 0
HasWords fields n row = (length row ≡ 16) × ((k : ℕ) (aspect : Aspect) → k < n → slice_get row k ≡ Some aspect → field_at fields (k + 1) ≡ Some (word_of aspect))

pub words_more : (fields : Fields) (n : ℕ) (row : List Aspect) (field : List ℕ) (aspect : Aspect) → n < 16 → HasWords fields n row →
    Some field ≡ field_at fields (n + 1) → field ≡ word_of aspect →
    HasWords fields (n + 1) (set row n aspect)
words_more fields n row field aspect h words at is = (
  set_count row n aspect ∙ words.0,
  λ k own below own_is. elim (cases_lt k n) [
    | inl old ↦ words.1 k own old (sym (set_other row n k aspect (λ e. absurd (omega (arith, old, e)))) ∙ own_is)
    | inr rest ↦
        let same : n ≡ k = omega (arith, below, rest) in
        let own_same : aspect ≡ own = same_Some aspect own (sym (set_here row n aspect (omega (arith, h, words.0))) ∙ ap (slice_get (set row n aspect)) same ∙ own_is) in
        ap (λ m. field_at fields (m + 1)) (sym same) ∙ sym at ∙ ap Some (is ∙ ap word_of own_same)
  ],
)

words_from : (fields : Fields) (row : List Aspect) (n : ℕ) → length fields ≡ n → n ≤ length row →
    ((k : ℕ) (aspect : Aspect) → k < n → slice_get row k ≡ Some aspect → slice_get fields k ≡ Some (word_of aspect)) → fields ≡ map word_of (take n row)
words_from [] row zero size few is = refl
words_from [] row (suc n) size few is = absurd (omega arith)
words_from (field ∷ fields) row zero size few is = absurd (omega arith)
words_from (field ∷ fields) [] (suc n) size few is = absurd (omega arith)
words_from (field ∷ fields) (aspect ∷ row) (suc n) size few is =
    let first : field ≡ word_of aspect = same_Some field (word_of aspect) (is 0 aspect (omega arith) refl) in
    let rest = words_from fields row n (omega arith) (omega arith) (λ k own below at. is (suc k) own (omega (arith, below)) at) in
    ap (λ f. f ∷ fields) first ∙ ap (λ fs. word_of aspect ∷ fs) rest

pub words_all : (fields : Fields) (n m : ℕ) (row : List Aspect) → length fields ≡ n + 1 → n ≤ 16 → n ≤ m → HasWords fields m row →
    drop 1 fields ≡ map word_of (take n row)
words_all [] n m row size few all words = absurd (omega arith)
words_all (field ∷ fields) n m row size few all words =
    words_from fields row n (omega arith) (omega (arith, few, words.0)) (λ k aspect below at. sym (field_next field fields k) ∙ words.1 k aspect (omega (arith, below, all)) at)

word_there : (row : List Aspect) (i : ℕ) (field : List ℕ) → slice_get (map word_of row) i ≡ Some field →
    (aspect : Aspect) × (word_of aspect ≡ field)
word_there [] i field e = cc
word_there (aspect ∷ row) zero field e = (aspect, same_Some (word_of aspect) field e)
word_there (aspect ∷ row) (suc i) field e = word_there row i field e

pub no_word : (fields : Fields) (i : ℕ) (field : List ℕ) → Some field ≡ field_at fields (i + 1) →
    ((aspect : Aspect) → field ≢ word_of aspect) → ¬ HasAspects fields
no_word [] i field at none has = let no : Some field ≡ None = at ∙ field_is [] (i + 1) in cc
no_word (first ∷ fields) i field at none has =
    let e : slice_get (map word_of has.0) i ≡ Some field = ap (λ (fs : Fields). slice_get fs i) (sym has.1) ∙ sym (field_next first fields i) ∙ sym at in
    let word = word_there has.0 i field e in
    none word.0 (sym word.1)

-- ---- the second

pub number_text : (field : List ℕ) (n : ℕ) → n ≤ most_second → field ≡ decimal n → IsUtf8 field
number_text field n h e = subst IsUtf8 (sym e) (IsUtf8-from_ascii (decimal n) (IsAscii-decimal n (omega (arith, h))))

pub number_parsed : {E : Type 0} (field : List ℕ) (n : ℕ) (r : Result ℕ E) → n ≤ most_second → field ≡ decimal n →
    ParsesUnsigned 32 10 field r → r ≡ Ok n
number_parsed field n r h e parses = parse-decimal 32 n field r (omega (arith, h)) (omega (arith, h)) e parses
