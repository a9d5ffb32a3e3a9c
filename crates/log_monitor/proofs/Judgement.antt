-- What the records that were taken and the rows that were read tell of a log.
use Rattle.std.proofs.Common.{Bor, ℕ, List, [], ◌∷◌, ◌++◌, length, map, append_assoc, true, false, Some, Err, ◌≡◌, ◌≤◌, ◌<◌, ◌+◌, refl, sym, ap, ◌∙◌, subst, arith}
use Rattle.std.proofs.lemmas.Option.{same_Some}
use Rattle.csv.specs.Reading.{ExplainsRead, ReadRecord}
use Rattle.csv.specs.declared.error.ErrorKind.{ErrorKind}
use Rattle.csv.specs.declared.error.ErrorKind.TheVariants as kind
use Rattle.csv.specs.declared.reader.Reader.{Reader}
use Rattle.junction_model.specs.declared.group.Group.{Group}
use Rattle.junction_model.specs.Junction.{JunctionView}
use Rattle.plan_model.specs.Fits.{group_count}
use Rattle.aspect_player.specs.declared.aspect.Aspect.{Aspect}
use Rattle.aspect_player.specs.Safe.{IsSafe}
use Rattle.log_monitor.specs.declared.fault.LogFault.{LogFault}
use Rattle.log_monitor.specs.declared.fault.LogFault.TheVariants as fault
use Rattle.log_monitor.specs.declared.reading.Reading.{Reading}
use Rattle.log_monitor.specs.declared.verdict.LogVerdict.{LogVerdict}
use Rattle.log_monitor.specs.declared.verdict.LogVerdict.TheVariants as verdict
use Rattle.log_monitor.specs.Judgement.{IsVerdict, IsJudged, IsRefusedAs}
use Rattle.log_monitor.specs.Log.{Fields, records_in, header_of, records_of, HasFields, IsLogOf, IsAfterRows, IsFaultAfter}
use Rattle.log_monitor.specs.Memory.{IsMemoryOf}
use Rattle.log_monitor.specs.Monitor.{memory_of}
use Rattle.log_monitor.specs.Reading.{junction_read, HasRead, IsTold}
use Rattle.log_monitor.specs.TakenRecords.{HasTaken}
use Rattle.log_monitor.specs.Violations.{AreRows, IsFirstViolation}
use Rattle.log_monitor.proofs.Logs.{records_count}
use Rattle.log_monitor.proofs.TakenRecords.{taken_count, taken_first, taken_more, taken_next}

labels_count : (groups : List Group) → length (map (λ (group : Group). group.label) groups) ≡ length groups
labels_count [] = refl
labels_count (group ∷ groups) = omega (arith, labels_count groups)

header_count : (junction : JunctionView) → length (header_of junction) ≡ group_count junction + 1
header_count junction = omega (arith, labels_count junction.groups)

module _ (junction : JunctionView) (reading : Reading) (rows : List (List Aspect)) (same : junction_read reading ≡ junction) (has : HasRead reading rows) where
  log_of : IsLogOf junction (header_of junction ∷ records_of reading.first rows) reading.first rows
  log_of = record { full = subst (λ j. AreRows j rows) same has.full; seconds = has.seconds; records = refl }

  -- the verdict, where these are all records
  pub told_verdict : (read : List Fields) (given : LogVerdict) → read ≡ header_of junction ∷ records_of reading.first rows →
      IsTold reading given → IsVerdict junction read given
  told_verdict read (verdict.Safe count) all told =
      let seen : IsSafe (junction_read reading) rows × IsMemoryOf (junction_read reading) rows (memory_of reading.monitor) = rw told.0 at has.seen in
      record {
        first = reading.first;
        rows = rows;
        log = record { full = log_of.full; seconds = log_of.seconds; records = all };
        safe = subst (λ j. IsSafe j rows) same seen.0;
        counted = told.1 ∙ has.count;
      }
  told_verdict read (verdict.Unsafe shown) all told =
      let seen : IsFirstViolation (junction_read reading) rows told.0 = rw told.1 at has.seen in
      record {
        first = reading.first;
        rows = rows;
        log = record { full = log_of.full; seconds = log_of.seconds; records = all };
        found = told.0;
        violation = subst (λ j. IsFirstViolation j rows told.0) same seen;
        told_is = told.2;
      }

  module _ (bytes : List ℕ) (a : Reader (Bor (List ℕ))) (taken : HasTaken bytes a (header_of junction ∷ records_of reading.first rows)) where
    pub rows_few : length bytes ≤ 67108864 → length rows + 1 < 4294967296
    rows_few few = omega (arith, few, taken_count bytes a (header_of junction ∷ records_of reading.first rows) taken, records_count reading.first rows)

    pub reading_few : length bytes ≤ 67108864 → reading.rows < 4294967295
    reading_few few = omega (arith, rows_few few, has.count)

    -- a reading of all bytes has come to the end before it takes as many rows as there are bytes
    pub no_turn_left : length bytes ≤ length rows → ⊥
    no_turn_left many = omega (arith, many, taken_count bytes a (header_of junction ∷ records_of reading.first rows) taken, records_count reading.first rows)

    -- the record comes next
    next_after : (fields : Fields) (rest : List Fields) →
        records_in bytes ≡ (header_of junction ∷ records_of reading.first rows) ++ fields ∷ rest →
        IsAfterRows junction (records_in bytes) fields
    next_after fields rest parts = record {
      first = reading.first;
      rows = rows;
      before = log_of;
      rest = rest;
      parts = parts;
    }

    -- the reader's error
    pub refused_judged : (b : Reader (Bor (List ℕ))) (why : ErrorKind) (given : LogFault) → ExplainsRead (λ s. Some s.now) a b false why → IsRefusedAs why reading.rows given →
        IsJudged junction (records_in bytes) (Err given)
    unfolding next_after
    refused_judged b (kind.UnequalLengths pos expected len) given why is =
        let fields = why.3 in
        let next = taken_next bytes a (header_of junction ∷ records_of reading.first rows) taken b fields why.4 in
        let first : Some (length (header_of junction)) ≡ Some expected = sym taken.expected ∙ why.1 in
        let wanted : length (header_of junction) ≡ expected = same_Some _ _ first in
        subst (λ f. IsJudged junction (records_in bytes) (Err f)) (sym is)
        (record {
          fields = fields;
          after = next_after fields next.0 next.1;
          fault = (ap (λ n. n + 1) has.count, λ (right : HasFields junction fields). why.2 (omega (arith, wanted, header_count junction, why.5, right)));
        })
    refused_judged b (kind.Io e) given why is = subst (λ f. IsJudged junction (records_in bytes) (Err f)) (sym is) tt
    refused_judged b (kind.Utf8 pos err) given why is = subst (λ f. IsJudged junction (records_in bytes) (Err f)) (sym is) tt
    refused_judged b kind.OutOfMemory given why is = subst (λ f. IsJudged junction (records_in bytes) (Err f)) (sym is) tt
    refused_judged b (kind.Serialize text) given why is = subst (λ f. IsJudged junction (records_in bytes) (Err f)) (sym is) tt
    refused_judged b (kind.Deserialize pos err) given why is = subst (λ f. IsJudged junction (records_in bytes) (Err f)) (sym is) tt

    module _ (b : Reader (Bor (List ℕ))) (fields : Fields) (read : ReadRecord (λ s. Some s.now) a b true fields) where
      -- the reader gives only records with as many fields as the header
      pub right_fields : HasFields junction fields
      right_fields =
          let lengths = read.5 refl taken.flexible in
          let first = rw taken.expected at lengths.0 in
          let same_count : length fields ≡ length (header_of junction) = same_Some _ _ (sym lengths.1 ∙ first) in
          omega (arith, same_count, header_count junction)

      -- the fault of a record that was read
      pub fault_judged : (given : LogFault) → b.first ≡ true → b.flexible ≡ a.flexible →
          IsFaultAfter (junction_read reading) reading.first reading.rows fields given →
          IsJudged junction (records_in bytes) (Err given)
      unfolding next_after
      fault_judged given first flexible is = by given (subst (λ j. IsFaultAfter j reading.first (length rows) fields given) same
          (subst (λ n. IsFaultAfter (junction_read reading) reading.first n fields given) has.count is))
        where
          more : HasTaken bytes b ((header_of junction ∷ records_of reading.first rows) ++ fields ∷ [])
          more = taken_more bytes a (header_of junction ∷ records_of reading.first rows) taken b fields read first flexible

          after : IsAfterRows junction (records_in bytes) fields
          after =
              let all = taken_first bytes b ((header_of junction ∷ records_of reading.first rows) ++ fields ∷ []) more in
              next_after fields all.0 (all.1 ∙ append_assoc (header_of junction ∷ records_of reading.first rows) (fields ∷ []) all.0)

          by : (given : LogFault) → IsFaultAfter junction reading.first (length rows) fields given →
              IsJudged junction (records_in bytes) (Err given)
          by fault.Header is = absurd is
          by (fault.Record number) is = record { fields = fields; after = after; fault = is }
          by (fault.Second number) is = record { fields = fields; after = after; fault = is }
          by (fault.Aspect number) is = record { fields = fields; after = after; fault = is }
          by fault.Memory is = absurd is
