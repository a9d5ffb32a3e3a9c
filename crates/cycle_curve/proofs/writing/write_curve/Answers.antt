use Rattle.std.proofs.Common.{◌≤◌, ◌∙◌, ap, subst, length, append_assoc, refl, arith}
use Rattle.std.proofs.lemmas.List.{length-map, take_all}
use Rattle.std.proofs.lemmas.Option.{slice_get_within}
use Rattle.plan_certificate.specs.Reads.{Spells}
use Rattle.cycle_curve.specs.Curve.{row_of}
use Rattle.cycle_curve.specs.Lines.{curve_text}
use Rattle.cycle_curve.proofs.Judgements.{text_next}
use Rattle.cycle_curve.proofs.Rows.{row_at, one_more}
use Rattle.cycle_curve.proofs.WrittenLines.{IsSpelt, text_spells}
use Rattle.cycle_curve.proofs.writing.write_curve.Goals as goal

pub loop-row-preserved : goal.loop-row-preserved
loop-row-preserved c =
    let at = row_at c.args.rows.now c.items-row-items.result.now c.loop-row.row-index c.row-item.result c.items-row-items.ensures c.loop-row-test.true c.row-item.is in
    record {
      written = rw (
        c.in_ok-push.ensures.items,
        c.in_ok-extend_from_slice.ensures.items,
        c.deref.ensures.value,
        c.in_ok-text.ensures.text,
        c.loop-row.invariant.written,
        text_next c.args.rows.now c.loop-row.row-index (row_of c.row-item.result) at,
      ) (rw append_assoc refl);
      spelt = one_more c.args.rows.now c.loop-row.row-index (row_of c.row-item.result) at IsSpelt c.loop-row.invariant.spelt
          (λ groups range. subst (λ text. Spells groups text (row_of c.row-item.result).certificate) c.in_ok-text.ensures.text (c.in_ok-text.ensures.spells groups range));
    }

pub returns-clause-spells : goal.returns-clause-spells
returns-clause-spells c =
    let past : length c.args.rows.now ≤ c.loop-row.row-index =
    omega (arith, c.loop-row-test.false, c.loop-row.auto.row-index-end, ap length c.items-row-items.ensures, length-map c.items-row-items.result.now row_of) in
    λ junction range. text_spells junction c.args.rows.now c.loop-row.bytes.items
    (λ k row at. c.loop-row.invariant.spelt k row (let within = slice_get_within c.args.rows.now k row at in omega (arith, within, past)) at)
    (c.loop-row.invariant.written ∙ ap curve_text (take_all c.loop-row.row-index c.args.rows.now past)) range
