use Rattle.std.proofs.Common.{ℕ, ◌≡◌, ◌==◌, if◌then◌else◌, Some, None, decimal, length, take, slice_get, ap, sym, refl, ◌∙◌, arith}
use Rattle.std.proofs.lemmas.Option.{same_Some}
use Rattle.csv.specs.Records.{fields_of, field_at}
use Rattle.log_monitor.specs.Log.{Fields}
use Rattle.log_monitor.proofs.Fields.{field_is, field_some, record_all, count_one, words_count}
use Rattle.log_monitor.proofs.reading.Reading.take.Goals as goal

pub unreachable-requires : goal.unreachable-requires
unreachable-requires c =
    let fields : Fields = fields_of c.args.read.now in
    let none : None ≡ field_at fields 0 = rw c.in_default.is at c.get.ensures.value in
    field_some fields 0 (omega (arith, c.requires.fields)) none

pub returns-in_default-second-clause-fault : goal.returns-in_default-second-clause-fault
returns-in_default-second-clause-fault c =
    let fields : Fields = fields_of c.args.read.now in
    let at : Some c.in-Some.field.now ≡ field_at fields 0 = rw c.in-Some.is at c.get.ensures.value in
    let none = rw c.in_default-second.is at c.second.ensures in
    (refl, c.requires.fields, λ has. none has.0 has.1 (same_Some c.in-Some.field.now (decimal has.0) (at ∙ field_is fields 0 ∙ has.2)))

pub returns-in_default-row_in-clause-fault : goal.returns-in_default-row_in-clause-fault
returns-in_default-row_in-clause-fault c =
    let fields : Fields = fields_of c.args.read.now in
    let at : Some c.in-Some.field.now ≡ field_at fields 0 = rw c.in-Some.is at c.get.ensures.value in
    let second = rw c.in-Some-second.is at c.second.ensures in
    let first : slice_get fields 0 ≡ Some (decimal c.in-Some-second.second) = sym (field_is fields 0) ∙ sym at ∙ ap Some second.1 in
    (refl, c.requires.fields, (c.in-Some-second.second, second.0, first), rw c.in_default-row_in.is at c.row_in.ensures)

pub returns-clause-taken : goal.returns-clause-taken
returns-clause-taken c =
    let fields : Fields = fields_of c.args.read.now in
    let at : Some c.in-Some.field.now ≡ field_at fields 0 = rw c.in-Some.is at c.get.ensures.value in
    let second = rw c.in-Some-second.is at c.second.ensures in
    let first : slice_get fields 0 ≡ Some (decimal c.in-Some-second.second) = sym (field_is fields 0) ∙ sym at ∙ ap Some second.1 in
    let words = rw c.in-Some-row_in.is at c.row_in.ensures in
    let n : ℕ = length c.groups-groups.result.now in
    let row = take n c.in-Some-row_in.row in
    let groups : n ≡ _ = ap length (c.groups-groups.ensures.value ∙ ap (λ j. j.groups) c.junction-2.ensures) in
    record {
      row = row;
      second = c.in-Some-second.second;
      full = omega (arith, groups, ap length words, words_count row, count_one fields _ c.requires.fields);
      fields_are = record_all fields _ _ first words;
      next = second.0;
      first = c.first_second-self.ensures ∙ ap (λ n. if n == 0 then c.in-Some-second.second else c.see.new.self.first) c.see.ensures.rows
          ∙ ap (λ f. if c.args.self.now.rows == 0 then c.in-Some-second.second else f) c.see.ensures.first;
      rows = refl;
      sees = record { junction = c.see.ensures.sees.junction; kept = c.see.ensures.sees.kept };
    }
