-- The verdict on rows, one after another.
use Rattle.std.proofs.Common.{ℕ, List, ◌≡◌, ◌≢◌, ◌+◌, ◌<◌, Some, sym, refl, length, slice_get, arith}
use Rattle.std.proofs.lemmas.Option.{slice_get_within}
use Rattle.junction_model.specs.Junction.{JunctionView}
use Rattle.cycle_curve.specs.Curve.{RowView}
use Rattle.cycle_curve.specs.Judged.{IsInOrder, IsProvedRow, AreInOrderBelow, HasStopped, IsRowVerdict, IsVerdictOn}
use Rattle.cycle_curve.specs.declared.verdict.CurveVerdict.{CurveVerdict}
use Rattle.cycle_curve.specs.declared.verdict.CurveVerdict.TheVariants as verdict
use Rattle.cycle_curve.proofs.Rows.{one_more}

module _ (junction : JunctionView) (rows : List RowView) where
  -- the verdict on the rows below a number
  abbrev pub IsVerdictBelow : ℕ → CurveVerdict → Type 0
  IsVerdictBelow n verdict.Proved = AreInOrderBelow junction n rows × ((k : ℕ) (row : RowView) → k < n → slice_get rows k ≡ Some row → IsProvedRow junction row)
  IsVerdictBelow n verdict.Partial = AreInOrderBelow junction n rows × HasStopped rows
  IsVerdictBelow n (verdict.Claim cycle) = ⊥
  IsVerdictBelow n (verdict.Broken rule cycle node) = ⊥

  in_order : (n : ℕ) (found : CurveVerdict) → IsVerdictBelow n found → AreInOrderBelow junction n rows
  in_order n verdict.Proved below = below.0
  in_order n verdict.Partial below = below.0
  in_order n (verdict.Claim cycle) below = absurd below
  in_order n (verdict.Broken rule cycle node) below = absurd below

  module _ (n : ℕ) (row : RowView) (there : slice_get rows n ≡ Some row) where
    pub proved_next : (found : CurveVerdict) → IsRowVerdict junction row verdict.Proved → IsVerdictBelow n found → IsVerdictBelow (n + 1) found
    proved_next verdict.Proved own below = (one_more rows n row there (IsInOrder junction) below.0 own.0, one_more rows n row there (IsProvedRow junction) below.1 own.1)
    proved_next verdict.Partial own below = (one_more rows n row there (IsInOrder junction) below.0 own.0, below.1)
    proved_next (verdict.Claim cycle) own below = absurd below
    proved_next (verdict.Broken rule cycle node) own below = absurd below

    pub partial_next : (found : CurveVerdict) → IsRowVerdict junction row verdict.Partial → IsVerdictBelow n found → IsVerdictBelow (n + 1) verdict.Partial
    partial_next found own below = (one_more rows n row there (IsInOrder junction) (in_order n found below) own.0, (n, row, there, own.1))

    pub at_fault : (found fault : CurveVerdict) → IsVerdictBelow n found → IsRowVerdict junction row fault → fault ≢ verdict.Proved → fault ≢ verdict.Partial → IsVerdictOn junction rows fault
    at_fault found verdict.Proved below own proved partial = absurd (proved refl)
    at_fault found verdict.Partial below own proved partial = absurd (partial refl)
    at_fault found (verdict.Claim cycle) below own proved partial =
        record { number = n; row = row; there = there; of_cycle = sym own.0; is_wrong = own.1; first = in_order n found below }
    at_fault found (verdict.Broken rule cycle node) below own proved partial =
        record { number = n; row = row; there = there; of_cycle = sym own.0; is_wrong = own.1; first = in_order n found below }

  pub none_yet : IsVerdictBelow 0 verdict.Proved
  none_yet = (λ k row below. absurd (omega (arith, below)), λ k row below. absurd (omega (arith, below)))

  pub all_judged : (n : ℕ) (found : CurveVerdict) → n ≡ length rows → IsVerdictBelow n found → IsVerdictOn junction rows found
  all_judged n verdict.Proved all below = (
    λ k row less at. below.0 k row (omega (arith, all, less)) at,
    λ k row at. below.1 k row (let within = slice_get_within rows k row at in omega (arith, all, within)) at,
  )
  all_judged n verdict.Partial all below = (λ k row less at. below.0 k row (omega (arith, all, less)) at, below.1)
  all_judged n (verdict.Claim cycle) all below = absurd below
  all_judged n (verdict.Broken rule cycle node) all below = absurd below
