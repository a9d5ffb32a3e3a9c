use Rattle.std.proofs.Common.{refl, sym, ◌∙◌}
use Rattle.std.proofs.lemmas.Bool.{false≢true}
use Rattle.std.proofs.lemmas.Str.{IsUtf8-string_bytes}
use Rattle.junction_files.proofs.Members.{file_depth, file_dates}
use Rattle.junction_files.proofs.Spells.{spells}
use Rattle.junction_files.proofs.printing.printer.print.Goals as goal

pub returns-in-Ok-clause-document : goal.returns-in-Ok-clause-document
returns-in-Ok-clause-document c =
    let file = c.in_ok-file.ensures.value in
    record {
      utf8 = rw c.into_bytes.ensures.value (IsUtf8-string_bytes c.in-Ok.text);
      parsed = rw (c.into_bytes.ensures.value, ← file) (c.in-Ok.ensures.reads_back (rw file (file_depth c.args.junction.now)));
    }

pub returns-in-Ok-clause-junction : goal.returns-in-Ok-clause-junction
returns-in-Ok-clause-junction c =
    let file = c.in_ok-file.ensures in
    spells _ _ file.rules (returns-in-Ok-clause-document c)

pub unreachable-requires : goal.unreachable-requires
unreachable-requires c =
    let dates = c.table_to_string.ensures.dates.0 (rw (c.in-Err-DateInvalid.is, c.in-Err-DateInvalid.field-0-is) refl) in
    false≢true (sym dates ∙ rw c.in_ok-file.ensures.value (file_dates c.args.junction.now))
