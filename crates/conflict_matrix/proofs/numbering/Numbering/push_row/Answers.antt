use Rattle.std.proofs.Common.{arith}
use Rattle.conflict_matrix.proofs.Rows.{row_more, row_skipped, room_for_row, conflicting_cell, apart_cell}
use Rattle.conflict_matrix.proofs.numbering.Numbering.push_row.Goals as goal
use Rattle.conflict_matrix.proofs.numbering.Numbering.push_row.Goals.{then-cells-i, else-cells-i}

pub push-requires-clause-room : goal.push-requires-clause-room
push-requires-clause-room c = room_for_row c.args.i c.loop-j.j c.args.self.now.count c.loop-j.self.count (omega arith) (omega arith) c.requires.few c.loop-j.invariant.few

pub loop-j-preserved : goal.loop-j-preserved
loop-j-preserved c =
    elim c.if-cells-i.branch [
      | then-cells-i w ↦
          rw (w.self-is, w.push.ensures.pair) (row_more _ _ _ _ _ w.push.ensures.room (omega arith) (omega arith) (conflicting_cell _ w.if-cells-i.true) c.loop-j.invariant)
      | else-cells-i w ↦
          rw w.self-is (row_skipped _ _ _ _ _ (omega arith) (omega arith) (apart_cell _ w.if-cells-i.false) c.loop-j.invariant)
    ]
