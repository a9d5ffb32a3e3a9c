use Rattle.std.proofs.Common.{◌≡◌, ◌+◌, ◌≤◌, length, drop}
use Rattle.cycle_curve.specs.Lines.{lines_of}
use Rattle.cycle_curve.proofs.lines.line_count.Given as goal

abbrev pub invariant-loop-at : goal.invariant-loop-at
invariant-loop-at l = record {
  few : l.count ≤ l.at;
  counted : l.count + length (lines_of (drop l.at l.bytes)) ≡ length (lines_of l.bytes);
}
