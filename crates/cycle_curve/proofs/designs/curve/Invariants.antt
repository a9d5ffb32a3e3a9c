use Rattle.cycle_curve.specs.Curve.{EachRow, IsDesignedRow}
use Rattle.cycle_curve.proofs.Rows.{AreRowsBelow}
use Rattle.cycle_curve.proofs.designs.curve.Given as goal

abbrev pub invariant-loop-cycle : goal.invariant-loop-cycle
invariant-loop-cycle l = record {
  below : AreRowsBelow l.junction l.cycle l.rows;
  designed : EachRow (IsDesignedRow l.junction l.budget) l.rows;
}
