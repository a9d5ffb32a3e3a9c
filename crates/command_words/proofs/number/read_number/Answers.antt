use Rattle.std.proofs.Common.{arith, sym, ◌∙◌}
use Rattle.command_words.proofs.Numeral.{not_parsed}
use Rattle.command_words.proofs.number.read_number.Goals as goal

pub returns-in_default-3-clause-value : goal.returns-in_default-3-clause-value
returns-in_default-3-clause-value c =
    not_parsed c.in_default.field-0 c.args.low c.args.high c.args.word.now (sym c.is_numeral.ensures ∙ c.if-not-is_numeral.false) (omega arith) c.in_default.ensures.value.0
