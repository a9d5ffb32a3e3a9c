-- Records have one first fault.
use Rattle.std.proofs.Common.{ℕ, zero, suc, List, [], ◌∷◌, ◌++◌, length, ◌≡◌, ◌⊎◌, ◌<◌, ◌≤◌, inl, inr, refl, sym, ap, ◌∙◌, subst, arith}
use Rattle.junction_model.specs.Junction.{JunctionView}
use Rattle.aspect_player.specs.declared.aspect.Aspect.{Aspect}
use Rattle.log_monitor.specs.declared.fault.LogFault.{LogFault}
use Rattle.log_monitor.specs.declared.fault.LogFault.TheVariants as fault
use Rattle.log_monitor.specs.Log.{Fields, records_of, header_of, most_second, HasSecond, IsAfterRows, IsFaultAfter, IsRecordFault, IsFirstFault}
use Rattle.log_monitor.specs.LogLaws.{OneFaultLaw}
use Rattle.log_monitor.proofs.Logs.{one_first, one_list, records_count, after_no_log}

-- two ways to tell one record of a list
same_place : (xs zs : List Fields) (y w : Fields) (rest tail : List Fields) → length xs ≡ length zs → xs ++ y ∷ rest ≡ zs ++ w ∷ tail →
    (xs ≡ zs) × (y ≡ w)
same_place [] [] y w rest tail size e = (refl, cc)
same_place [] (z ∷ zs) y w rest tail size e = absurd (omega (arith, size))
same_place (x ∷ xs) [] y w rest tail size e = absurd (omega (arith, size))
same_place (x ∷ xs) (z ∷ zs) y w rest tail size e =
    let head : x ≡ z = cc in
    let more : xs ++ y ∷ rest ≡ zs ++ w ∷ tail = cc in
    let later = same_place xs zs y w rest tail (omega (arith, size)) more in
    (ap (λ f. f ∷ xs) head ∙ ap (λ l. z ∷ l) later.0, later.1)

-- of a list that goes on longer, a record stands in the longer part
cut : (xs zs : List Fields) (y : Fields) (rest tail : List Fields) → length xs < length zs → xs ++ y ∷ rest ≡ zs ++ tail →
    (more : List Fields) × (zs ≡ xs ++ y ∷ more)
cut xs [] y rest tail less e = absurd (omega (arith, less))
cut [] (z ∷ zs) y rest tail less e = let head : z ≡ y = cc in (zs, ap (λ f. f ∷ zs) head)
cut (x ∷ xs) (z ∷ zs) y rest tail less e =
    let head : z ≡ x = cc in
    let more : xs ++ y ∷ rest ≡ zs ++ tail = cc in
    let later = cut xs zs y rest tail (omega (arith, less)) more in
    (later.0, ap (λ f. f ∷ zs) head ∙ ap (λ l. x ∷ l) later.1)

-- a fault can't stand before rows that were read later
module _ (junction : JunctionView) (read : List Fields) (one other : LogFault) (a : IsRecordFault junction read one) (b : IsRecordFault junction read other) where
  same_records : records_of a.after.first a.after.rows ++ a.fields ∷ a.after.rest ≡ records_of b.after.first b.after.rows ++ b.fields ∷ b.after.rest
  same_records = let first = a.after.parts in let second = b.after.parts in cc

  not_before : length a.after.rows < length b.after.rows → ⊥
  not_before less =
      let size : length (records_of a.after.first a.after.rows) < length (records_of b.after.first b.after.rows) =
      omega (arith, less, records_count a.after.first a.after.rows, records_count b.after.first b.after.rows) in
      let found = cut (records_of a.after.first a.after.rows) (records_of b.after.first b.after.rows) a.fields a.after.rest (b.fields ∷ b.after.rest) size same_records in
      let earlier : IsAfterRows junction (header_of junction ∷ records_of b.after.first b.after.rows) a.fields = record {
        first = a.after.first;
        rows = a.after.rows;
        before = a.after.before;
        rest = found.0;
        parts = ap (λ records. header_of junction ∷ records) found.1;
      } in
      after_no_log junction _ one a.fields earlier a.fault b.after.first b.after.rows b.after.before

-- where rows have a second, they have it for both
second_too : (first other : ℕ) (rows more : List (List Aspect)) (fields : Fields) → first ≤ most_second → other ≤ most_second →
    records_of first rows ≡ records_of other more → HasSecond first (length rows) fields → HasSecond other (length more) fields
unfolding records_of
second_too first other [] [] fields f o e has = has
second_too first other [] (b ∷ more) fields f o e has = cc
second_too first other (a ∷ rows) [] fields f o e has = cc
second_too first other (a ∷ rows) (b ∷ more) fields f o e has =
    let same : a ∷ rows ≡ b ∷ more = one_list first other (a ∷ rows) (b ∷ more) e in
    let start : first ≡ other = one_first first other (a ∷ rows) (b ∷ more) f o (λ none. cc) e in
    (has.0, omega (arith, has.1, start, ap length same), has.2)

-- one record has one fault
one_after : (junction : JunctionView) (first other : ℕ) (n : ℕ) (fields : Fields) (one two : LogFault) →
    (HasSecond first n fields → HasSecond other n fields) → (HasSecond other n fields → HasSecond first n fields) →
    IsFaultAfter junction first n fields one → IsFaultAfter junction other n fields two → one ≡ two
one_after junction first other n fields fault.Header two to from a b = absurd a
one_after junction first other n fields fault.Memory two to from a b = absurd a
one_after junction first other n fields (fault.Record number) fault.Header to from a b = absurd b
one_after junction first other n fields (fault.Record number) fault.Memory to from a b = absurd b
one_after junction first other n fields (fault.Record number) (fault.Record own) to from a b = ap fault.Record (a.0 ∙ sym b.0)
one_after junction first other n fields (fault.Record number) (fault.Second own) to from a b = absurd (a.1 b.1)
one_after junction first other n fields (fault.Record number) (fault.Aspect own) to from a b = absurd (a.1 b.1)
one_after junction first other n fields (fault.Second number) fault.Header to from a b = absurd b
one_after junction first other n fields (fault.Second number) fault.Memory to from a b = absurd b
one_after junction first other n fields (fault.Second number) (fault.Record own) to from a b = absurd (b.1 a.1)
one_after junction first other n fields (fault.Second number) (fault.Second own) to from a b = ap fault.Second (a.0 ∙ sym b.0)
one_after junction first other n fields (fault.Second number) (fault.Aspect own) to from a b = absurd (a.2 (from b.2))
one_after junction first other n fields (fault.Aspect number) fault.Header to from a b = absurd b
one_after junction first other n fields (fault.Aspect number) fault.Memory to from a b = absurd b
one_after junction first other n fields (fault.Aspect number) (fault.Record own) to from a b = absurd (b.1 a.1)
one_after junction first other n fields (fault.Aspect number) (fault.Second own) to from a b = absurd (b.2 (to a.2))
one_after junction first other n fields (fault.Aspect number) (fault.Aspect own) to from a b = ap fault.Aspect (a.0 ∙ sym b.0)

one_record_fault : (junction : JunctionView) (read : List Fields) (one other : LogFault) → IsRecordFault junction read one →
    IsRecordFault junction read other → one ≡ other
one_record_fault junction read one other a b = by (order (length a.after.rows) (length b.after.rows))
  where
    order : (n m : ℕ) → (n < m) ⊎ ((m < n) ⊎ (n ≡ m))
    order zero zero = inr (inr refl)
    order zero (suc m) = inl (omega arith)
    order (suc n) zero = inr (inl (omega arith))
    order (suc n) (suc m) = more (order n m)
      where
        more : (n < m) ⊎ ((m < n) ⊎ (n ≡ m)) → (suc n < suc m) ⊎ ((suc m < suc n) ⊎ (suc n ≡ suc m))
        more (inl less) = inl (omega (arith, less))
        more (inr (inl less)) = inr (inl (omega (arith, less)))
        more (inr (inr same)) = inr (inr (ap suc same))

    by : (length a.after.rows < length b.after.rows) ⊎ ((length b.after.rows < length a.after.rows) ⊎ (length a.after.rows ≡ length b.after.rows)) →
        one ≡ other
    by (inl less) = absurd (not_before junction read one other a b less)
    by (inr (inl less)) = absurd (not_before junction read other one b a less)
    by (inr (inr same)) =
        let size : length (records_of a.after.first a.after.rows) ≡ length (records_of b.after.first b.after.rows) =
        omega (arith, same, records_count a.after.first a.after.rows, records_count b.after.first b.after.rows) in
        let place = same_place (records_of a.after.first a.after.rows) (records_of b.after.first b.after.rows) a.fields b.fields a.after.rest b.after.rest size
        (same_records junction read one other a b) in
        let f = a.after.before.seconds in
        let o = b.after.before.seconds in
        one_after junction a.after.first b.after.first (length b.after.rows) b.fields one other
        (λ has. second_too a.after.first b.after.first a.after.rows b.after.rows b.fields f o place.0 (subst (λ n. HasSecond a.after.first n b.fields) (sym same) has))
        (λ has. subst (λ n. HasSecond a.after.first n b.fields) same (second_too b.after.first a.after.first b.after.rows a.after.rows b.fields o f (sym place.0) has))
        (subst (λ n. IsFaultAfter junction a.after.first n b.fields one) same (subst (λ fields. IsFaultAfter junction a.after.first (length a.after.rows) fields one) place.1 a.fault))
        b.fault

-- a fault that isn't the header's is one of a record
record_or_header : (junction : JunctionView) (read : List Fields) (found : LogFault) → IsFirstFault junction read found →
    (((rest : List Fields) → read ≡ header_of junction ∷ rest → ⊥) × (found ≡ fault.Header)) ⊎ IsRecordFault junction read found
record_or_header junction read fault.Header stands = inl (stands, refl)
record_or_header junction read (fault.Record number) stands = inr stands
record_or_header junction read (fault.Second number) stands = inr stands
record_or_header junction read (fault.Aspect number) stands = inr stands
record_or_header junction read fault.Memory stands = absurd stands

pub one_fault_law : OneFaultLaw
one_fault_law junction read one other first second = by (record_or_header junction read one first) (record_or_header junction read other second)
  where
    by : (((rest : List Fields) → read ≡ header_of junction ∷ rest → ⊥) × (one ≡ fault.Header)) ⊎ IsRecordFault junction read one →
        (((rest : List Fields) → read ≡ header_of junction ∷ rest → ⊥) × (other ≡ fault.Header)) ⊎ IsRecordFault junction read other → one ≡ other
    by (inl a) (inl b) = a.1 ∙ sym b.1
    by (inl a) (inr b) = absurd (a.0 _ b.after.parts)
    by (inr a) (inl b) = absurd (b.0 _ a.after.parts)
    by (inr a) (inr b) = one_record_fault junction read one other a b
