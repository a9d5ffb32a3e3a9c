use Rattle.std.proofs.Common.{List, [], ◌∷◌, ◌++◌, ◌≡◌, ◌∙◌, sym, subst, arith}
use Rattle.std.proofs.lemmas.List.{length-append}
use Rattle.csv.specs.Records.{fields_of}
use Rattle.log_monitor.specs.Log.{Fields, header_of, records_of, records_in, HasFields}
use Rattle.log_monitor.specs.TakenRecords.{HasTaken}
use Rattle.log_monitor.proofs.Judgement.{told_verdict, rows_few, reading_few, refused_judged, right_fields, fault_judged, no_turn_left}
use Rattle.log_monitor.proofs.NextRow.{row_read, row_records}
use Rattle.log_monitor.proofs.TakenRecords.{taken_all, taken_first, taken_more}
use Rattle.log_monitor.proofs.judging.judge.Goals as goal

pub returns-in-Ok-false : goal.returns-in-Ok-false
returns-in-Ok-false c =
    let start = c.reader_of-reader.ensures in
    let read = rw c.in-Ok-false.field-0-test at (c.in-Ok-false.ensures.reads start.trim start.ready) in
    let none = taken_all c.args.bytes.now c.reader_of-reader.result [] start c.read_byte_record.new.self _ read in
    λ rest is. cc

pub returns-then-not-is_header : goal.returns-then-not-is_header
returns-then-not-is_header c =
    let start = c.reader_of-reader.ensures in
    let fields : Fields = fields_of c.read_byte_record.new.row in
    let read = rw c.in-Ok-true.field-0-test at (c.in-Ok-true.ensures.reads start.trim start.ready) in
    let header = taken_more c.args.bytes.now c.reader_of-reader.result [] start c.read_byte_record.new.self fields read
    (c.in-Ok-true.ensures.ready start.trim) c.in-Ok-true.ensures.flexible in
    let all = taken_first c.args.bytes.now c.read_byte_record.new.self (fields ∷ []) header in
    λ rest is.
    let first : records_in c.args.bytes.now ≡ fields ∷ all.0 = all.1 in
    let same : fields ≡ header_of c.args.junction.now = cc in
    let yes = c.is_header.ensures.1 same in
    let no = c.if-not-is_header.true in
    cc

pub loop-init : goal.loop-init
unfolding records_of
loop-init c =
    let start = c.reader_of-reader.ensures in
    let fields : Fields = fields_of c.read_byte_record.new.row in
    let read = rw c.in-Ok-true.field-0-test at (c.in-Ok-true.ensures.reads start.trim start.ready) in
    let header = taken_more c.args.bytes.now c.reader_of-reader.result [] start c.read_byte_record.new.self fields read
    (c.in-Ok-true.ensures.ready start.trim) c.in-Ok-true.ensures.flexible in
    let same : fields ≡ header_of c.args.junction.now = c.is_header.ensures.0 c.if-not-is_header.false in (
      c.new-reading.ensures.junction,
      [],
      c.new-reading.ensures.read,
      subst (λ f. HasTaken c.args.bytes.now c.read_byte_record.new.self (f ∷ [])) same header,
      omega arith,
    )

pub verdict-requires : goal.verdict-requires
verdict-requires c = let inv = c.loop.invariant in record { read = (inv.1, inv.2) }

pub returns-in-Ok-false-read_byte_record : goal.returns-in-Ok-false-read_byte_record
returns-in-Ok-false-read_byte_record c =
    let inv = c.loop.invariant in
    let read = rw c.in-Ok-false-read_byte_record.field-0-test at (c.in-Ok-false-read_byte_record.ensures.reads inv.3.trim inv.3.ready) in
    told_verdict c.args.junction.now c.loop.reading inv.1 inv.0 inv.2 (records_in c.args.bytes.now) c.verdict.result
    (taken_all c.args.bytes.now c.loop.reader (header_of c.args.junction.now ∷ records_of c.loop.reading.first inv.1) inv.3 c.read_byte_record-in-loop.new.self _ read)
    c.verdict.ensures

pub refused-requires : goal.refused-requires
refused-requires c =
    let inv = c.loop.invariant in
    reading_few c.args.junction.now c.loop.reading inv.1 inv.0 inv.2 c.args.bytes.now c.loop.reader inv.3 c.requires

pub returns-in-Err-read_byte_record : goal.returns-in-Err-read_byte_record
returns-in-Err-read_byte_record c =
    let inv = c.loop.invariant in
    refused_judged c.args.junction.now c.loop.reading inv.1 inv.0 inv.2 c.args.bytes.now c.loop.reader inv.3 c.read_byte_record-in-loop.new.self
    c.in-Err-read_byte_record.error.kind c.refused.result (c.in-Err-read_byte_record.ensures.why inv.3.ready) c.refused.ensures

pub take-requires-clause-read : goal.take-requires-clause-read
take-requires-clause-read c = let inv = c.loop.invariant in (inv.1, inv.2)

pub take-requires-clause-fields : goal.take-requires-clause-fields
take-requires-clause-fields c =
    let inv = c.loop.invariant in
    let fields : Fields = fields_of c.read_byte_record-in-loop.new.row in
    let read = rw c.in-Ok-true-read_byte_record.field-0-test at (c.in-Ok-true-read_byte_record.ensures.reads inv.3.trim inv.3.ready) in
    subst (λ j. HasFields j fields) (sym inv.0)
    (right_fields c.args.junction.now c.loop.reading inv.1 inv.0 inv.2 c.args.bytes.now c.loop.reader inv.3 c.read_byte_record-in-loop.new.self fields read)

pub take-requires-clause-few : goal.take-requires-clause-few
take-requires-clause-few c =
    let inv = c.loop.invariant in
    reading_few c.args.junction.now c.loop.reading inv.1 inv.0 inv.2 c.args.bytes.now c.loop.reader inv.3 c.requires

pub returns-in-Err-take : goal.returns-in-Err-take
returns-in-Err-take c =
    let inv = c.loop.invariant in
    let told = c.in-Ok-true-read_byte_record.ensures in
    let read = rw c.in-Ok-true-read_byte_record.field-0-test at (told.reads inv.3.trim inv.3.ready) in
    fault_judged c.args.junction.now c.loop.reading inv.1 inv.0 inv.2 c.args.bytes.now c.loop.reader inv.3 c.read_byte_record-in-loop.new.self
    (fields_of c.read_byte_record-in-loop.new.row) read c.in-Err-take.fault (told.ready inv.3.trim) told.flexible c.in-Err-take.ensures.fault

pub loop-preserved : goal.loop-preserved
loop-preserved c =
    let inv = c.loop.invariant in
    let told = c.in-Ok-true-read_byte_record.ensures in
    let read = rw c.in-Ok-true-read_byte_record.field-0-test at (told.reads inv.3.trim inv.3.ready) in
    let fields : Fields = fields_of c.read_byte_record-in-loop.new.row in
    let reader = c.read_byte_record-in-loop.new.self in
    let takes = c.in-Ok.ensures.taken in
    let few = rows_few c.args.junction.now c.loop.reading inv.1 inv.0 inv.2 c.args.bytes.now c.loop.reader inv.3 c.requires in
    let more = taken_more c.args.bytes.now c.loop.reader (header_of c.args.junction.now ∷ records_of c.loop.reading.first inv.1) inv.3 reader fields read
    (told.ready inv.3.trim) told.flexible in (
      takes.sees.junction ∙ inv.0,
      inv.1 ++ takes.row ∷ [],
      row_read c.loop.reading c.take.new.self inv.1 fields inv.2 takes few,
      subst (λ (read : List Fields). HasTaken c.args.bytes.now reader (header_of c.args.junction.now ∷ read))
          (sym (row_records c.loop.reading c.take.new.self inv.1 fields inv.2 takes)) more,
      omega (arith, inv.4, length-append inv.1 (takes.row ∷ [])),
    )

pub unreachable-requires : goal.unreachable-requires
unreachable-requires c =
    let inv = c.loop.invariant in
    let all = c.loop-test.false in
    no_turn_left c.args.junction.now c.loop.reading inv.1 inv.0 inv.2 c.args.bytes.now c.loop.reader inv.3 (omega (arith, inv.4, all))
