use Rattle.std.proofs.Common.{◌≡◌, ◌+◌, None, arith}
use Rattle.csv.specs.Records.{fields_of, field_at}
use Rattle.log_monitor.specs.Log.{Fields}
use Rattle.log_monitor.proofs.Fields.{field_some, words_more, words_all, no_word}
use Rattle.log_monitor.proofs.record.row_in.Goals as goal

pub unreachable-requires : goal.unreachable-requires
unreachable-requires c =
    let fields : Fields = fields_of c.args.read.now in
    let none : None ≡ field_at fields (c.loop-i.i + 1) = rw c.in_default.is at c.get.ensures.value in
    field_some fields (c.loop-i.i + 1) (omega (arith, c.requires.fields, c.loop-i-test.true)) none

pub returns-in_default-aspect_in : goal.returns-in_default-aspect_in
returns-in_default-aspect_in c = no_word (fields_of c.args.read.now) c.loop-i.i c.in-Some.field.now (rw c.in-Some.is at c.get.ensures.value) (rw c.in_default-aspect_in.is at c.aspect_in.ensures)

pub loop-i-preserved : goal.loop-i-preserved
loop-i-preserved c = words_more (fields_of c.args.read.now) c.loop-i.i c.loop-i.row c.in-Some.field.now c.in-Some-aspect_in.aspect (omega (arith, c.requires.few, c.loop-i-test.true))
    c.loop-i.invariant (rw c.in-Some.is at c.get.ensures.value) (rw c.in-Some-aspect_in.is at c.aspect_in.ensures)

pub returns : goal.returns
returns c = words_all (fields_of c.args.read.now) c.args.groups c.loop-i.i c.loop-i.row c.requires.fields c.requires.few (omega (arith, c.loop-i-test.false)) c.loop-i.invariant
