-- What a log that is being read has seen, one row after another.
use Rattle.std.proofs.Common.{ℕ, List, [], ◌∷◌, ◌++◌, length, length-append, append_assoc, Option, None, Some, false, MatchOption, ◌≡◌, ◌≤◌, ◌<◌, ◌+◌, ◌^◌, ◌==◌, if◌then◌else◌, refl, sym, ap, ◌∙◌, subst, arith}
use Rattle.std.proofs.lemmas.Bool.{ne_eqb}
use Rattle.std.proofs.lemmas.List.Elements.{All-push}
use Rattle.junction_model.specs.Junction.{JunctionView}
use Rattle.plan_model.specs.Fits.{group_count}
use Rattle.aspect_player.specs.declared.aspect.Aspect.{Aspect}
use Rattle.aspect_player.specs.Safe.{IsSafe}
use Rattle.log_monitor.specs.declared.reading.Reading.{Reading}
use Rattle.log_monitor.specs.declared.violation.Violation.{Violation}
use Rattle.log_monitor.specs.declared.violation.Violation.TheVariants as violation
use Rattle.log_monitor.specs.Log.{Fields, record_of, records_of, most_second, IsNextSecond}
use Rattle.log_monitor.specs.Memory.{IsMemoryOf, with_row}
use Rattle.log_monitor.specs.Monitor.{memory_of}
use Rattle.log_monitor.specs.Reading.{junction_read, HasRead, Takes, in_range}
use Rattle.log_monitor.specs.Sight.{IsSeen}
use Rattle.log_monitor.specs.Violations.{AreRows, IsFirstViolation}
use Rattle.log_monitor.proofs.MemoryAfter.{memory_law}
use Rattle.log_monitor.proofs.NextLaw.{next_law}

-- a violation that is found stays the first when rows are added
pub still_first : (junction : JunctionView) (rows more : List (List Aspect)) (found : Violation) → IsFirstViolation junction rows found →
    IsFirstViolation junction (rows ++ more) found
still_first junction rows more found first = record {
  before = first.before;
  row = first.row;
  after = first.after ++ more;
  parts = ap (λ all. all ++ more) first.parts ∙ append_assoc first.before (first.row ∷ first.after) more;
  safe = first.safe;
  unsafe = first.unsafe;
  first = first.first;
}

first_within : (junction : JunctionView) (rows : List (List Aspect)) (found : Violation) (first : IsFirstViolation junction rows found) →
    length first.before < length rows
first_within junction rows found first = omega (arith, ap length first.parts, length-append first.before (first.row ∷ first.after))

pub first_in_range : (junction : JunctionView) (rows : List (List Aspect)) (found : Violation) → length rows < 2 ^ 32 →
    IsFirstViolation junction rows found → in_range found
first_in_range junction rows (violation.Clearance i j u v) few first =
    let within = first_within junction rows (violation.Clearance i j u v) first in
    let stands = first.first.stands in
    (omega (arith, few, within, stands.0.ordered), omega (arith, few, within, stands.1))
first_in_range junction rows (violation.Amber i v) few first =
    let within = first_within junction rows (violation.Amber i v) first in
    omega (arith, few, within, first.first.stands.1)
first_in_range junction rows (violation.Minimum i v) few first =
    let within = first_within junction rows (violation.Minimum i v) first in
    omega (arith, few, within, first.first.stands.1)

pub seen_in_range : (reading : Reading) (rows : List (List Aspect)) (found : Violation) → HasRead reading rows →
    reading.found ≡ Some found → in_range found
seen_in_range reading rows found has e =
    let first : IsFirstViolation (junction_read reading) rows found = rw e at has.seen in
    first_in_range (junction_read reading) rows found has.few first

-- the records of rows with one more
records_push : (first : ℕ) (rows : List (List Aspect)) (row : List Aspect) →
    records_of first (rows ++ row ∷ []) ≡ records_of first rows ++ record_of (first + length rows) row ∷ []
unfolding records_of
records_push first [] row = let plain : first ≡ first + 0 = omega arith in ap (λ n. record_of n row ∷ []) plain
records_push first (own ∷ rows) row =
    let later : first + 1 + length rows ≡ first + length (own ∷ rows) = omega arith in
    ap (λ more. record_of first own ∷ more) (records_push (first + 1) rows row ∙ ap (λ n. records_of (first + 1) rows ++ record_of n row ∷ []) later)

-- one more record is that of the next row, and the first one sets the second of the first row
pub record_more : (first other second : ℕ) (rows : List (List Aspect)) (row : List Aspect) (fields : Fields) → first ≤ most_second →
    fields ≡ record_of second row → IsNextSecond first (length rows) second → other ≡ (if length rows == 0 then second else first) →
    (other ≤ most_second) × (records_of other (rows ++ row ∷ []) ≡ records_of first rows ++ fields ∷ [])
unfolding records_of
record_more first other second [] row fields few is next same =
    (omega (arith, next, same), ap (λ n. record_of n row ∷ []) same ∙ ap (λ f. f ∷ []) (sym is))
record_more first other second (own ∷ rows) row fields few is next given =
    let some : (length (own ∷ rows) == 0) ≡ false = ne_eqb (length (own ∷ rows)) 0 (λ e. absurd (omega (arith, e))) in
    let same : other ≡ first = rw some at given in (
      omega (arith, same, few),
      ap (λ n. records_of n ((own ∷ rows) ++ row ∷ [])) same ∙ records_push first (own ∷ rows) row
          ∙ ap (λ n. records_of first (own ∷ rows) ++ record_of n row ∷ []) (sym next)
          ∙ ap (λ f. records_of first (own ∷ rows) ++ f ∷ []) (sym is),
    )

module _ (old new : Reading) (rows : List (List Aspect)) (fields : Fields) (has : HasRead old rows) (takes : Takes old new fields) where
  -- the second of the first row is in its range, and that of the record is the next
  seconds : (new.first ≤ most_second) × (records_of new.first (rows ++ takes.row ∷ []) ≡ records_of old.first rows ++ fields ∷ [])
  seconds = record_more old.first new.first takes.second rows takes.row fields has.seconds takes.fields_are
      (subst (λ n. IsNextSecond old.first n takes.second) has.count takes.next)
      (takes.first ∙ ap (λ n. if n == 0 then takes.second else old.first) has.count)

  seen : MatchOption new.found (IsSafe (junction_read old) (rows ++ takes.row ∷ []) × IsMemoryOf (junction_read old) (rows ++ takes.row ∷ []) (memory_of new.monitor))
      (IsFirstViolation (junction_read old) (rows ++ takes.row ∷ []))
  seen = by old.found refl has.seen takes.sees.kept
    where
      are : AreRows (junction_read old) (rows ++ takes.row ∷ [])
      are = All-push (λ r. length r ≡ group_count (junction_read old)) rows takes.row has.full takes.full

      after : (found : Option Violation) → new.found ≡ found →
          IsSafe (junction_read old) rows × IsMemoryOf (junction_read old) rows (memory_of old.monitor) →
          IsSeen (junction_read old) (memory_of old.monitor) takes.row found × (found ≡ None → memory_of new.monitor ≡ with_row (memory_of old.monitor) takes.row) →
          MatchOption found (IsSafe (junction_read old) (rows ++ takes.row ∷ []) × IsMemoryOf (junction_read old) (rows ++ takes.row ∷ []) (memory_of new.monitor))
          (IsFirstViolation (junction_read old) (rows ++ takes.row ∷ []))
      after None e was sees = (
        (next_law (junction_read old) rows takes.row (memory_of old.monitor) are was.0 was.1).none.0 sees.0,
        subst (IsMemoryOf (junction_read old) (rows ++ takes.row ∷ [])) (sym (sees.1 refl)) (memory_law (junction_read old) rows takes.row (memory_of old.monitor) takes.full was.1),
      )
      after (Some found) e was sees = ((next_law (junction_read old) rows takes.row (memory_of old.monitor) are was.0 was.1).violation found).0 sees.0

      by : (found : Option Violation) → old.found ≡ found →
          MatchOption found (IsSafe (junction_read old) rows × IsMemoryOf (junction_read old) rows (memory_of old.monitor)) (IsFirstViolation (junction_read old) rows) →
          MatchOption found
          (IsSeen (junction_read old) (memory_of old.monitor) takes.row new.found × (new.found ≡ None → memory_of new.monitor ≡ with_row (memory_of old.monitor) takes.row))
          (λ v. new.found ≡ Some v) →
          MatchOption new.found (IsSafe (junction_read old) (rows ++ takes.row ∷ []) × IsMemoryOf (junction_read old) (rows ++ takes.row ∷ []) (memory_of new.monitor))
          (IsFirstViolation (junction_read old) (rows ++ takes.row ∷ []))
      by None e was sees = after new.found refl was sees
      by (Some found) e was sees = rw sees (still_first (junction_read old) rows (takes.row ∷ []) found was)

  pub row_read : length rows + 1 < 2 ^ 32 → HasRead new (rows ++ takes.row ∷ [])
  row_read few = record {
    count = omega (arith, takes.rows, has.count, length-append rows (takes.row ∷ []));
    full = subst (λ j. AreRows j (rows ++ takes.row ∷ [])) (sym takes.sees.junction) (All-push (λ r. length r ≡ group_count (junction_read old)) rows takes.row has.full takes.full);
    seconds = seconds.0;
    few = omega (arith, few, length-append rows (takes.row ∷ []));
    seen = subst (λ j. MatchOption new.found (IsSafe j (rows ++ takes.row ∷ []) × IsMemoryOf j (rows ++ takes.row ∷ []) (memory_of new.monitor)) (IsFirstViolation j (rows ++ takes.row ∷ [])))
        (sym takes.sees.junction) seen;
  }

  pub row_records : records_of new.first (rows ++ takes.row ∷ []) ≡ records_of old.first rows ++ fields ∷ []
  row_records = seconds.1
