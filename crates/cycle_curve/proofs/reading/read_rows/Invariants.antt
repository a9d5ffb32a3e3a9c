use Rattle.std.proofs.Common.{◌≡◌, ◌+◌, drop, length}
use Rattle.cycle_curve.specs.Lines.{lines_of}
use Rattle.cycle_curve.proofs.Rows.{AreRowsBelow}
use Rattle.cycle_curve.proofs.Spelt.{AreSpelt}
use Rattle.cycle_curve.proofs.reading.read_rows.Given as goal

abbrev pub invariant-loop-cycle : goal.invariant-loop-cycle
invariant-loop-cycle l = record {
  below : AreRowsBelow l.junction l.cycle l.rows;
  counted : l.junction.least_cycle + l.line ≡ l.cycle;
  rest : lines_of l.rest ≡ drop (length l.rows) (lines_of l.bytes);
  spelt : AreSpelt l.junction l.bytes l.rows;
}
