use Rattle.std.proofs.Common.{ℕ, ◌≡◌, ◌<◌, Some, take, slice_get}
use Rattle.cycle_curve.specs.Curve.{RowView}
use Rattle.cycle_curve.specs.Lines.{curve_text}
use Rattle.cycle_curve.proofs.WrittenLines.{IsSpelt}
use Rattle.cycle_curve.proofs.writing.write_curve.Given as goal

abbrev pub invariant-loop-row : goal.invariant-loop-row
invariant-loop-row l = record {
  written : l.bytes.items ≡ curve_text (take l.row-index l.rows);
  spelt : (k : ℕ) (row : RowView) → k < l.row-index → slice_get l.rows k ≡ Some row → IsSpelt row;
}
