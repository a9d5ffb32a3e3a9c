use Rattle.std.proofs.Common.{◌≡◌, decimal, ap, sym, ◌∙◌}
use Rattle.log_monitor.proofs.Fields.{number_text, number_parsed}
use Rattle.log_monitor.proofs.record.second_in.Goals as goal

pub returns-in_default : goal.returns-in_default
returns-in_default c = λ n h e. (rw c.in_default.is at c.from_utf8.ensures.cases).0 (number_text c.args.field.now n h e)

pub returns-in_default-parse : goal.returns-in_default-parse
returns-in_default-parse c = λ n h e.
    let same : c.in-Ok.text.now ≡ c.args.field.now = (rw c.in-Ok.is at c.from_utf8.ensures.cases).0 in
    let parsed = number_parsed c.in-Ok.text.now n c.parse.result h (same ∙ e) c.parse.ensures.value.0 in
    let no = c.in_default-parse.is in
    cc

pub returns-else-is_decimal : goal.returns-else-is_decimal
returns-else-is_decimal c = λ n h e.
    let same : c.in-Ok.text.now ≡ c.args.field.now = (rw c.in-Ok.is at c.from_utf8.ensures.cases).0 in
    let parsed = number_parsed c.in-Ok.text.now n c.parse.result h (same ∙ e) c.parse.ensures.value.0 in
    let is = c.in-Ok-parse.is in
    let second : n ≡ c.in-Ok-parse.second = cc in
    let yes = c.is_decimal.ensures.1 (e ∙ ap decimal (second ∙ sym c.from.ensures)) in
    let no = c.if-is_decimal.false in
    cc
