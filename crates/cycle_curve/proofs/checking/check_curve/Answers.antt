use Rattle.std.proofs.Common.{subst}
use Rattle.cycle_curve.specs.Judged.{IsVerdictOn}
use Rattle.cycle_curve.specs.declared.verdict.CurveVerdict.TheVariants.{Proved}
use Rattle.cycle_curve.proofs.Judgements.{in_range, all_hold, same_verdict}
use Rattle.cycle_curve.proofs.checking.check_curve.Goals as goal

pub rows_verdict-requires : goal.rows_verdict-requires
rows_verdict-requires c = in_range c.args.junction.now c.args.bytes.now c.in_ok-rows.rows (c.has_its_lines.ensures.0 c.if-not-has_its_lines.false) c.in_ok-rows.ensures.rows

pub returns-clause-proved : goal.returns-clause-proved
returns-clause-proved c = λ proved. all_hold c.args.junction.now c.args.bytes.now c.in_ok-rows.rows c.curve_law.ensures.curve c.rules.ensures c.in_ok-rows.ensures.rows
    (subst (IsVerdictOn c.args.junction.now c.in_ok-rows.rows) (same_verdict c.in_ok-verdict.verdict Proved proved) c.in_ok-verdict.ensures)
