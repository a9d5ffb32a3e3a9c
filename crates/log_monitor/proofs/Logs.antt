-- A log has one list of rows, and no fault.
use Rattle.std.proofs.Common.{ℕ, zero, suc, List, [], ◌∷◌, ◌++◌, append_assoc, get_or, slice_get, length, map, drop, Result, Ok, Err, ◌≡◌, ◌≢◌, ◌⊎◌, ◌≤◌, ◌+◌, inl, inr, refl, sym, ap, ◌∙◌, subst, arith}
use Rattle.std.proofs.lemmas.Fmt.{decimal_injective}
use Rattle.std.specs.Fmt.{decimal}
use Rattle.junction_model.specs.Junction.{JunctionView}
use Rattle.plan_model.specs.Fits.{group_count}
use Rattle.aspect_player.specs.declared.aspect.Aspect.{Aspect}
use Rattle.aspect_player.specs.declared.aspect.Aspect.TheVariants.{Red, RedAmber, Green, Amber}
use Rattle.aspect_player.specs.Lines.{word_of, rows_text}
use Rattle.aspect_player.specs.Safe.{IsSafe, SafetyLaw}
use Rattle.std.proofs.lemmas.List.Elements.{All-nil, All-cons, All-head, All-tail}
use Rattle.aspect_player.specs.Aspect.{aspect_at}
use Rattle.aspect_player.specs.Timetable.{Display, row_by, rows_by, rows_from}
use Rattle.log_monitor.specs.declared.fault.LogFault.{LogFault}
use Rattle.log_monitor.specs.declared.fault.LogFault.TheVariants as fault
use Rattle.log_monitor.specs.declared.verdict.LogVerdict.{LogVerdict}
use Rattle.log_monitor.specs.declared.verdict.LogVerdict.TheVariants as verdict
use Rattle.log_monitor.specs.Lines.{NamesGroups}
use Rattle.log_monitor.specs.declared.violation.Violation.{Violation}
use Rattle.log_monitor.specs.declared.violation.Violation.TheVariants as violation
use Rattle.std.proofs.lemmas.Option.{slice_get_within}
use Rattle.aspect_player.proofs.Timetable.{aspect_count, row_count}
use Rattle.log_monitor.proofs.Fields.{words_count}
use Rattle.log_monitor.proofs.LongerRows.{shown_group}
use Rattle.log_monitor.specs.Violations.{AreRows, IsFirstViolation, in_seconds}
use Rattle.log_monitor.specs.Log.{Fields, record_of, records_of, records_in, most_second, IsLogOf, IsNextSecond, HasSecond, HasAspects, HasFields, IsAfterRows, IsFaultAfter}
use Rattle.log_monitor.specs.Judgement.{IsJudged}
use Rattle.log_monitor.specs.LogLaws.{OneLogLaw, NoLogLaw, UnsafeLaw, GroupsLaw, SafeTextLaw, DisplayedLaw, PlayedLaw}
use Rattle.log_monitor.proofs.Prefix.{prefix_law}
use Rattle.log_monitor.proofs.RowsText.{rows_text_law}

one_word : (a b : Aspect) → word_of a ≡ word_of b → a ≡ b
one_word Red Red e = refl
one_word Red RedAmber e = cc
one_word Red Green e = cc
one_word Red Amber e = cc
one_word RedAmber Red e = cc
one_word RedAmber RedAmber e = refl
one_word RedAmber Green e = cc
one_word RedAmber Amber e = cc
one_word Green Red e = cc
one_word Green RedAmber e = cc
one_word Green Green e = refl
one_word Green Amber e = let first : 103 ≡ 97 = ap (λ w. get_or w 0 0) e in absurd (omega (arith, first))
one_word Amber Red e = cc
one_word Amber RedAmber e = cc
one_word Amber Green e = let first : 97 ≡ 103 = ap (λ w. get_or w 0 0) e in absurd (omega (arith, first))
one_word Amber Amber e = refl

one_row : (row other : List Aspect) → map word_of row ≡ map word_of other → row ≡ other
one_row [] [] e = refl
one_row [] (b ∷ other) e = cc
one_row (a ∷ row) [] e = cc
one_row (a ∷ row) (b ∷ other) e =
    let head : word_of a ≡ word_of b = cc in
    let tail : map word_of row ≡ map word_of other = cc in
    rw (one_word a b head, one_row row other tail) refl

pub one_list : (first other : ℕ) (rows more : List (List Aspect)) → records_of first rows ≡ records_of other more → rows ≡ more
unfolding records_of
one_list first other [] [] e = refl
one_list first other [] (b ∷ more) e = cc
one_list first other (a ∷ rows) [] e = cc
one_list first other (a ∷ rows) (b ∷ more) e =
    let head : map word_of a ≡ map word_of b = cc in
    let tail : records_of (first + 1) rows ≡ records_of (other + 1) more = cc in
    rw (one_row a b head, one_list (first + 1) (other + 1) rows more tail) refl

pub one_first : (first other : ℕ) (rows more : List (List Aspect)) → first ≤ most_second → other ≤ most_second → rows ≢ [] →
    records_of first rows ≡ records_of other more → first ≡ other
unfolding records_of
one_first first other [] more f o some e = absurd (some refl)
one_first first other (a ∷ rows) [] f o some e = cc
one_first first other (a ∷ rows) (b ∷ more) f o some e =
    let head : decimal first ≡ decimal other = cc in
    decimal_injective first other (omega (arith, f)) (omega (arith, o)) head

pub one_log_law : OneLogLaw
one_log_law junction read first other rows more log own =
    let same : records_of first rows ≡ records_of other more = (let a = log.records in let b = own.records in cc) in
    (one_list first other rows more same, λ some. one_first first other rows more log.seconds own.seconds some same)

pub records_count : (first : ℕ) (rows : List (List Aspect)) → length (records_of first rows) ≡ length rows
unfolding records_of
records_count first [] = refl
records_count first (row ∷ rows) = omega (arith, records_count (first + 1) rows)

-- ---- no log

-- a record after those of rows, in the records of a list of rows, is that of its next row
split_log : (first other : ℕ) (rows all : List (List Aspect)) (fields : Fields) (rest : List Fields) →
    records_of first rows ++ fields ∷ rest ≡ records_of other all →
    (row : List Aspect) × (more : List (List Aspect)) × (all ≡ rows ++ row ∷ more) × (fields ≡ record_of (other + length rows) row)
unfolding records_of
split_log first other [] [] fields rest e = cc
split_log first other [] (row ∷ all) fields rest e =
    let head : fields ≡ record_of other row = cc in let plain : other ≡ other + 0 = omega arith in
    (row, all, refl, head ∙ ap (λ n. record_of n row) plain)
split_log first other (a ∷ rows) [] fields rest e = cc
split_log first other (a ∷ rows) (b ∷ all) fields rest e =
    let head : map word_of a ≡ map word_of b = cc in
    let tail : records_of (first + 1) rows ++ fields ∷ rest ≡ records_of (other + 1) all = cc in
    let more = split_log (first + 1) (other + 1) rows all fields rest tail in
    let later : other + 1 + length rows ≡ other + length (a ∷ rows) = omega arith in
    (more.0, more.1, ap (λ r. r ∷ all) (sym (one_row a b head)) ∙ ap (λ l. a ∷ l) more.2, more.3 ∙ ap (λ n. record_of n more.0) later)

split_first : (first other : ℕ) (rows all : List (List Aspect)) (fields : Fields) (rest : List Fields) → first ≤ most_second →
    other ≤ most_second →
    records_of first rows ++ fields ∷ rest ≡ records_of other all → IsNextSecond first (length rows) (other + length rows)
unfolding records_of
split_first first other [] all fields rest f o e = omega (arith, o)
split_first first other (a ∷ rows) [] fields rest f o e = cc
split_first first other (a ∷ rows) (b ∷ all) fields rest f o e =
    let head : decimal first ≡ decimal other = cc in
    let same : first ≡ other = decimal_injective first other (omega (arith, f)) (omega (arith, o)) head in
    omega (arith, same)

full_row : (junction : JunctionView) (rows more : List (List Aspect)) (row : List Aspect) → AreRows junction (rows ++ row ∷ more) →
    length row ≡ group_count junction
full_row junction [] more row are = All-head (λ r. length r ≡ group_count junction) row more are
full_row junction (first ∷ rows) more row are = full_row junction rows more row (All-tail (λ r. length r ≡ group_count junction) first (rows ++ row ∷ more) are)

module _ (junction : JunctionView) (read : List Fields) (fields : Fields) (at : IsAfterRows junction read fields)
    (first : ℕ) (rows : List (List Aspect)) (log : IsLogOf junction read first rows) where
  same_records : records_of at.first at.rows ++ fields ∷ at.rest ≡ records_of first rows
  same_records = let a = log.records in let b = at.parts in cc

  has_second : HasSecond at.first (length at.rows) fields
  has_second =
      let split = split_log at.first first at.rows rows fields at.rest same_records in
      (first + length at.rows, split_first at.first first at.rows rows fields at.rest at.before.seconds log.seconds same_records, ap (λ (f : Fields). slice_get f 0) split.3)

  has_aspects : HasAspects fields
  has_aspects = let split = split_log at.first first at.rows rows fields at.rest same_records in (split.0, ap (λ (f : Fields). drop 1 f) split.3)

  has_fields : HasFields junction fields
  has_fields =
      let split = split_log at.first first at.rows rows fields at.rest same_records in
      let full = full_row junction at.rows split.1 split.0 (subst (AreRows junction) split.2 log.full) in
      let size : length fields ≡ suc (length (map word_of split.0)) = ap length split.3 in
      omega (arith, size, full, words_count split.0)

-- what has a record with a fault is no log
pub after_no_log : (junction : JunctionView) (read : List Fields) (found : LogFault) (fields : Fields) (at : IsAfterRows junction read fields) →
    IsFaultAfter junction at.first (length at.rows) fields found → (first : ℕ) (rows : List (List Aspect)) → ¬ IsLogOf junction read first rows
after_no_log junction read fault.Header fields at stands first rows log = stands
after_no_log junction read (fault.Record number) fields at stands first rows log = stands.1 (has_fields junction read fields at first rows log)
after_no_log junction read (fault.Second number) fields at stands first rows log = stands.2 (has_second junction read fields at first rows log)
after_no_log junction read (fault.Aspect number) fields at stands first rows log = stands.3 (has_aspects junction read fields at first rows log)
after_no_log junction read fault.Memory fields at stands first rows log = stands

pub no_log_law : NoLogLaw
no_log_law junction read fault.Header first rows stands log = stands (records_of first rows) log.records
no_log_law junction read (fault.Record number) first rows stands log = after_no_log junction read (fault.Record number) stands.fields stands.after stands.fault first rows log
no_log_law junction read (fault.Second number) first rows stands log = after_no_log junction read (fault.Second number) stands.fields stands.after stands.fault first rows log
no_log_law junction read (fault.Aspect number) first rows stands log = after_no_log junction read (fault.Aspect number) stands.fields stands.after stands.fault first rows log
no_log_law junction read fault.Memory first rows stands log = stands

rows_upto : (junction : JunctionView) (rows before after : List (List Aspect)) (row : List Aspect) → rows ≡ before ++ row ∷ after →
    AreRows junction rows → AreRows junction (before ++ row ∷ [])
rows_upto junction rows [] after row parts full =
    All-cons (λ r. length r ≡ group_count junction) row []
    (All-head (λ r. length r ≡ group_count junction) row after (subst (AreRows junction) parts full))
    (All-nil (λ (r : List Aspect). length r ≡ group_count junction))
rows_upto junction rows (own ∷ before) after row parts full =
    let all = subst (AreRows junction) parts full in
    All-cons (λ r. length r ≡ group_count junction) own (before ++ row ∷ []) (All-head (λ r. length r ≡ group_count junction) own (before ++ row ∷ after) all)
    (rows_upto junction (before ++ row ∷ after) before after row refl (All-tail (λ r. length r ≡ group_count junction) own (before ++ row ∷ after) all))

pub unsafe_law : UnsafeLaw
unsafe_law junction rows found first safe =
    let parts : rows ≡ (first.before ++ first.row ∷ []) ++ first.after = first.parts ∙ sym (append_assoc first.before (first.row ∷ []) first.after) in
    first.unsafe (prefix_law junction (first.before ++ first.row ∷ []) first.after (subst (IsSafe junction) parts safe))

first_names : (junction : JunctionView) (rows : List (List Aspect)) (first : ℕ) (found : Violation) → AreRows junction rows →
    IsFirstViolation junction rows found → NamesGroups junction (in_seconds first found)
first_names junction rows first (violation.Clearance i j u v) full is =
    let s = is.first.stands.0 in
    let upto : AreRows junction (is.before ++ is.row ∷ []) = rows_upto junction rows is.before is.after is.row is.parts full in
    (shown_group junction (is.before ++ is.row ∷ []) u i Green upto s.first, shown_group junction (is.before ++ is.row ∷ []) (length is.before) j Green upto s.second)
first_names junction rows first (violation.Amber i v) full is = let s = is.first.stands.0 in slice_get_within junction.groups i s.group s.there
first_names junction rows first (violation.Minimum i v) full is = let s = is.first.stands.0 in slice_get_within junction.groups i s.group s.there

pub groups_law : GroupsLaw
groups_law junction read told is = subst (NamesGroups junction) (sym is.told_is) (first_names junction is.rows is.first is.found is.log.full is.violation)

-- ---- what was shown

are_rows : (junction : JunctionView) (display : Display) (t n : ℕ) → AreRows junction (rows_from junction display t n)
unfolding rows_from
are_rows junction display t zero = All-nil (λ (r : List Aspect). length r ≡ group_count junction)
are_rows junction display t (suc n) =
    All-cons (λ (r : List Aspect). length r ≡ group_count junction) (row_by junction display t) (rows_from junction display (t + 1) n)
    (aspect_count display 0 t junction.groups) (are_rows junction display (t + 1) n)

pub safe_text_law : SafeTextLaw
safe_text_law junction rows result are safe judged = by result judged
  where
    log : IsLogOf junction (records_in (rows_text junction rows)) 0 rows
    log = rows_text_law junction rows are

    by : (result : Result LogVerdict LogFault) → IsJudged junction (records_in (rows_text junction rows)) result →
        (result ≡ Ok (verdict.Safe (length rows))) ⊎ (result ≡ Err fault.Memory)
    by (Ok (verdict.Safe count)) is =
        let same = one_log_law junction _ is.first 0 is.rows rows is.log log in
        let all : count ≡ length rows = is.counted ∙ ap length same.0 in
        inl (ap (λ n. Ok (verdict.Safe n)) all)
    by (Ok (verdict.Unsafe told)) is =
        let same = one_log_law junction _ is.first 0 is.rows rows is.log log in
        absurd (unsafe_law junction is.rows is.found is.violation (subst (IsSafe junction) (sym same.0) safe))
    by (Err fault.Memory) is = inr refl
    by (Err fault.Header) is = absurd (no_log_law junction _ fault.Header 0 rows is log)
    by (Err (fault.Record number)) is = absurd (no_log_law junction _ (fault.Record number) 0 rows is log)
    by (Err (fault.Second number)) is = absurd (no_log_law junction _ (fault.Second number) 0 rows is log)
    by (Err (fault.Aspect number)) is = absurd (no_log_law junction _ (fault.Aspect number) 0 rows is log)

pub displayed_law : DisplayedLaw
displayed_law junction display seconds result safe judged =
    subst (λ n. (result ≡ Ok (verdict.Safe n)) ⊎ (result ≡ Err fault.Memory)) (row_count junction display 0 seconds)
    (safe_text_law junction (rows_by junction display seconds) result (are_rows junction display 0 seconds) safe judged)

pub played_law : SafetyLaw → PlayedLaw
played_law safety junction p seconds result rules fits = displayed_law junction (aspect_at p) seconds result (safety junction p seconds rules fits)
