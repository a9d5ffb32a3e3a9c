use Rattle.cycle_curve.proofs.RowVerdicts.{IsVerdictBelow}
use Rattle.cycle_curve.proofs.checking.rows_verdict.Given as goal

abbrev pub invariant-loop-row : goal.invariant-loop-row
invariant-loop-row l = IsVerdictBelow l.junction l.rows l.row-index l.verdict
