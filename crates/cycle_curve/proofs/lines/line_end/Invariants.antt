use Rattle.std.proofs.Common.{◌≡◌, take, drop}
use Rattle.cycle_curve.specs.Lines.{lines_behind, lines_of}
use Rattle.cycle_curve.proofs.lines.line_end.Given as goal

abbrev pub invariant-loop-end : goal.invariant-loop-end
invariant-loop-end l = lines_behind (take l.end l.bytes) (drop l.end l.bytes) ≡ lines_of l.bytes
