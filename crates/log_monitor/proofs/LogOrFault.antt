-- Records are a log, or have a first fault: whether a record is that of the next row can be decided.
use Rattle.std.proofs.Common.{ℕ, zero, suc, List, [], ◌∷◌, ◌++◌, append_assoc, length, map, drop, Some, ◌≡◌, ◌≢◌, ◌⊎◌, ◌+◌, ◌<◌, ◌≤◌, ◌==◌, if◌then◌else◌, inl, inr, refl, sym, ap, ◌∙◌, subst, arith}
use Rattle.std.proofs.lemmas.Bool.{cases_eq}
use Rattle.std.proofs.lemmas.List.{append-nil}
use Rattle.std.proofs.lemmas.List.Elements.{All-nil, All-push}
use Rattle.std.proofs.lemmas.Option.{same_Some}
use Rattle.std.specs.Fmt.{decimal}
use Rattle.junction_model.specs.Junction.{JunctionView}
use Rattle.plan_model.specs.Fits.{group_count}
use Rattle.aspect_player.specs.declared.aspect.Aspect.{Aspect}
use Rattle.aspect_player.specs.declared.aspect.Aspect.TheVariants.{Red, RedAmber, Green, Amber}
use Rattle.aspect_player.specs.Lines.{word_of}
use Rattle.log_monitor.specs.declared.fault.LogFault.{LogFault}
use Rattle.log_monitor.specs.declared.fault.LogFault.TheVariants as fault
use Rattle.log_monitor.specs.Log.{Fields, record_of, records_of, header_of, most_second, IsLogOf, IsNextSecond, HasFields, HasSecond, HasAspects, IsAfterRows, IsFirstFault}
use Rattle.log_monitor.specs.LogLaws.{LogOrFaultLaw}
use Rattle.log_monitor.specs.Violations.{AreRows}
use Rattle.log_monitor.proofs.Fields.{record_all, count_one, words_count}
use Rattle.log_monitor.proofs.NextRow.{record_more}

abbrev Decided : Type 0 → Type 0
Decided P = P ⊎ ¬ P

same_list : {A : Type 0} → ((x y : A) → Decided (x ≡ y)) → (xs ys : List A) → Decided (xs ≡ ys)
same_list same [] [] = inl refl
same_list same [] (y ∷ ys) = inr (λ e. cc)
same_list same (x ∷ xs) [] = inr (λ e. cc)
same_list same (x ∷ xs) (y ∷ ys) = by (same x y) (same_list same xs ys)
  where
    by : Decided (x ≡ y) → Decided (xs ≡ ys) → Decided (x ∷ xs ≡ y ∷ ys)
    by (inl head) (inl tail) = inl (ap (λ z. z ∷ xs) head ∙ ap (λ zs. y ∷ zs) tail)
    by (inr other) tail = inr (λ e. other cc)
    by (inl head) (inr other) = inr (λ e. other cc)

same_field : (field other : List ℕ) → Decided (field ≡ other)
same_field = same_list cases_eq

-- ---- the aspects

is_word : (field : List ℕ) → Decided ((aspect : Aspect) × (field ≡ word_of aspect))
is_word field = by (same_field field (word_of Red)) (same_field field (word_of RedAmber)) (same_field field (word_of Green)) (same_field field (word_of Amber))
  where
    by : Decided (field ≡ word_of Red) → Decided (field ≡ word_of RedAmber) → Decided (field ≡ word_of Green) →
        Decided (field ≡ word_of Amber) →
        Decided ((aspect : Aspect) × (field ≡ word_of aspect))
    by (inl is) _ _ _ = inl (Red, is)
    by (inr _) (inl is) _ _ = inl (RedAmber, is)
    by (inr _) (inr _) (inl is) _ = inl (Green, is)
    by (inr _) (inr _) (inr _) (inl is) = inl (Amber, is)
    by (inr a) (inr b) (inr c) (inr d) = inr (λ word. none word.0 word.1)
      where
        none : (aspect : Aspect) → field ≢ word_of aspect
        none Red = a
        none RedAmber = b
        none Green = c
        none Amber = d

are_words : (fields : Fields) → Decided ((row : List Aspect) × (fields ≡ map word_of row))
are_words [] = inl ([], refl)
are_words (field ∷ fields) = by (is_word field) (are_words fields)
  where
    by : Decided ((aspect : Aspect) × (field ≡ word_of aspect)) → Decided ((row : List Aspect) × (fields ≡ map word_of row)) →
        Decided ((row : List Aspect) × (field ∷ fields ≡ map word_of row))
    by (inl word) (inl rest) = inl (word.0 ∷ rest.0, ap (λ f. f ∷ fields) word.1 ∙ ap (λ fs. word_of word.0 ∷ fs) rest.1)
    by (inr none) rest = inr (λ all. first all.0 all.1)
      where
        first : (row : List Aspect) → field ∷ fields ≡ map word_of row → ⊥
        first [] e = cc
        first (aspect ∷ row) e = none (aspect, cc)
    by (inl word) (inr none) = inr (λ all. later all.0 all.1)
      where
        later : (row : List Aspect) → field ∷ fields ≡ map word_of row → ⊥
        later [] e = cc
        later (aspect ∷ row) e = none (row, cc)

-- ---- the second

-- a number below n, if the field is one
number_below : (field : List ℕ) (n : ℕ) → Decided ((second : ℕ) × (second < n) × (field ≡ decimal second))
number_below field zero = inr (λ number. absurd (omega (arith, number.1)))
number_below field (suc n) = by (same_field field (decimal n)) (number_below field n)
  where
    by : Decided (field ≡ decimal n) → Decided ((second : ℕ) × (second < n) × (field ≡ decimal second)) →
        Decided ((second : ℕ) × (second < suc n) × (field ≡ decimal second))
    by (inl is) _ = inl (n, omega arith, is)
    by (inr _) (inl number) = inl (number.0, omega (arith, number.1), number.2)
    by (inr last) (inr none) = inr (λ number. elim (cases_eq number.0 n) [
      | inl same ↦ last (number.2 ∙ ap decimal same)
      | inr other ↦ none (number.0, omega (arith, number.1, other), number.2)
    ])

is_second : (first : ℕ) (rows : ℕ) (field : List ℕ) → Decided ((second : ℕ) × IsNextSecond first rows second × (field ≡ decimal second))
is_second first zero field = elim (number_below field (most_second + 1)) [
  | inl number ↦ inl (number.0, omega (arith, number.1), number.2)
  | inr none ↦ inr (λ number. none (number.0, omega (arith, number.1), number.2))
]
is_second first (suc rows) field = elim (same_field field (decimal (first + suc rows))) [
  | inl is ↦ inl (first + suc rows, refl, is)
  | inr other ↦ inr (λ number. other (number.2 ∙ ap decimal number.1))
]

has_second : (first rows : ℕ) (fields : Fields) → Decided (HasSecond first rows fields)
has_second first rows [] = inr (λ has. cc has.2)
has_second first rows (field ∷ fields) = elim (is_second first rows field) [
  | inl number ↦ inl (number.0, number.1, ap Some number.2)
  | inr none ↦ inr (λ has. none (has.0, has.1, same_Some field (decimal has.0) has.2))
]

-- ---- one record after another

module _ (junction : JunctionView) where
  abbrev Outcome : List Fields → Type 0
  Outcome read = ((first : ℕ) × (rows : List (List Aspect)) × IsLogOf junction read first rows) ⊎ ((found : LogFault) × IsFirstFault junction read found)

  from_rows : (first : ℕ) (rows : List (List Aspect)) (rest : List Fields) → first ≤ most_second → AreRows junction rows →
      Outcome (header_of junction ∷ (records_of first rows ++ rest))
  from_rows first rows [] few full = inl (
    first,
    rows,
    record { full = full; seconds = few; records = ap (λ records. header_of junction ∷ records) (append-nil (records_of first rows)) },
  )
  from_rows first rows (fields ∷ rest) few full =
      by (cases_eq (length fields) (group_count junction + 1)) (has_second first (length rows) fields) (are_words (drop 1 fields))
      (λ other row few full. from_rows other (rows ++ row ∷ []) rest few full)
    where
      after : IsAfterRows junction (header_of junction ∷ (records_of first rows ++ fields ∷ rest)) fields
      after = record { first = first; rows = rows; before = record { full = full; seconds = few; records = refl }; rest = rest; parts = refl }

      by : Decided (HasFields junction fields) → Decided (HasSecond first (length rows) fields) → Decided (HasAspects fields) →
          ((other : ℕ) (row : List Aspect) → other ≤ most_second → AreRows junction (rows ++ row ∷ []) →
          Outcome (header_of junction ∷ (records_of other (rows ++ row ∷ []) ++ rest))) →
          Outcome (header_of junction ∷ (records_of first rows ++ fields ∷ rest))
      by (inr wrong) _ _ _ = inr (fault.Record (length rows + 1), record { fields = fields; after = after; fault = (refl, wrong) })
      by (inl size) (inr wrong) _ _ = inr (fault.Second (length rows + 1), record { fields = fields; after = after; fault = (refl, size, wrong) })
      by (inl size) (inl second) (inr wrong) _ =
          inr (fault.Aspect (length rows + 1), record { fields = fields; after = after; fault = (refl, size, second, wrong) })
      by (inl size) (inl second) (inl words) later =
          let is : fields ≡ record_of second.0 words.0 = record_all fields (decimal second.0) (map word_of words.0) second.2 words.1 in
          let other : ℕ = (if length rows == 0 then second.0 else first) in
          let more = record_more first other second.0 rows words.0 fields few is second.1 refl in
          let row : length words.0 ≡ group_count junction =
          omega (arith, ap length words.1, words_count words.0, count_one fields (group_count junction) size) in
          let all : records_of other (rows ++ words.0 ∷ []) ++ rest ≡ records_of first rows ++ fields ∷ rest =
          ap (λ records. records ++ rest) more.1 ∙ append_assoc (records_of first rows) (fields ∷ []) rest in
          subst (λ records. Outcome (header_of junction ∷ records)) all
          (later other words.0 more.0 (All-push (λ r. length r ≡ group_count junction) rows words.0 full row))

pub log_or_fault_law : LogOrFaultLaw
unfolding records_of
log_or_fault_law junction [] = inr (fault.Header, λ rest e. cc)
log_or_fault_law junction (fields ∷ rest) = by (same_list same_field fields (header_of junction))
  where
    by : Decided (fields ≡ header_of junction) → Outcome junction (fields ∷ rest)
    by (inl same) = subst (λ f. Outcome junction (f ∷ rest)) (sym same)
        (from_rows junction 0 [] rest (omega arith) (All-nil (λ (r : List Aspect). length r ≡ group_count junction)))
    by (inr other) = inr (fault.Header, λ more e. other cc)
