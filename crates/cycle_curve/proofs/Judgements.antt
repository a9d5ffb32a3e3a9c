-- What the lines and the rows come to.
use Rattle.std.proofs.Common.{ℕ, List, [], ◌∷◌, ◌++◌, ◌≡◌, ◌+◌, ◌<◌, Some, Ok, Err, ◌∙◌, ap, length, take, slice_get, get_or, arith}
use Rattle.std.specs.Prelude.{Result}
use Rattle.std.proofs.lemmas.List.{take_more}
use Rattle.std.proofs.lemmas.Option.{slice_get_within, slice_get-get_or, get_or_from_slice_get}
use Rattle.junction_model.specs.Junction.{JunctionView}
use Rattle.junction_model.specs.Rules.{IsJunction}
use Rattle.plan_certificate.specs.Text.{text_of}
use Rattle.cycle_curve.specs.Curve.{RowView, IsTrueRow, IsTrueCurve}
use Rattle.cycle_curve.specs.Judged.{SpellRows, AreInRange, IsInOrder, IsProvedRow, IsVerdictOn, AllHold}
use Rattle.cycle_curve.specs.Laws.{CurveLaw}
use Rattle.cycle_curve.specs.Lines.{lines_of, line_feed, curve_text, HasItsLines}
use Rattle.cycle_curve.specs.declared.verdict.CurveFault.{CurveFault}
use Rattle.cycle_curve.specs.declared.verdict.CurveVerdict.{CurveVerdict}
use Rattle.cycle_curve.specs.declared.verdict.CurveVerdict.TheVariants as verdict
use Rattle.cycle_curve.proofs.Spelt.{text_push}

pub text_next : (rows : List RowView) (i : ℕ) (row : RowView) → slice_get rows i ≡ Some row →
    curve_text (take (i + 1) rows) ≡ curve_text (take i rows) ++ (text_of row.certificate ++ line_feed ∷ [])
text_next rows i row at =
    let more = take_more rows i row (slice_get_within rows i row at) in
    let own : get_or rows i row ≡ row = get_or_from_slice_get rows i row row at in
    ap curve_text (more ∙ ap (λ r. take i rows ++ r ∷ []) own) ∙ text_push (take i rows) row

module _ (junction : JunctionView) (bytes : List ℕ) (rows : List RowView) where
  pub in_range : HasItsLines junction bytes → SpellRows junction bytes rows → AreInRange junction rows
  in_range lines spelt = record {
    of_junction = spelt.of_junction;
    each = λ k row at.
        let below = slice_get_within rows k row at in
        let within : k < length (lines_of bytes) = omega (arith, below, lines.count, spelt.of_junction.count) in
        (spelt.each k row (get_or (lines_of bytes) k []) at (slice_get-get_or (lines_of bytes) k [] within)).certificate.range;
  }

  proved_row : (row : RowView) → IsInOrder junction row → IsProvedRow junction row → IsTrueRow junction row
  proved_row row ordered proved = record {
    least_is = ordered.own_claim.least;
    own_claim = ordered.own_claim.no_cycle;
    proves = λ other. proved.proves;
    stopped = λ is. absurd (proved.finished is);
  }

  pub all_hold : CurveLaw → IsJunction junction → SpellRows junction bytes rows → IsVerdictOn junction rows verdict.Proved → AllHold junction bytes
  all_hold law rules spelt found =
      let curve : IsTrueCurve junction rows = record {
        rows_of = spelt.of_junction;
        each = λ k row at. proved_row row (found.0 k row (slice_get_within rows k row at) at) (found.1 k row at);
      } in
      record { rows = rows; spelt = spelt; finished = λ k row at. (found.1 k row at).finished; curve = curve; hold = law junction rows rules curve }

-- the verdict of an answer
verdict_in : Result CurveVerdict CurveFault → CurveVerdict
verdict_in (Ok found) = found
verdict_in (Err fault) = verdict.Proved

pub same_verdict : (one other : CurveVerdict) → ◌≡◌ {A = Result CurveVerdict CurveFault} (Ok one) (Ok other) → one ≡ other
unfolding verdict_in
same_verdict one other same = ap verdict_in same
