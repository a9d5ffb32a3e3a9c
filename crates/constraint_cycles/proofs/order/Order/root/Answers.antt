use Rattle.std.proofs.Common.{rules}
use Rattle.conflict_matrix.specs.Conflicts.{matrix_of}
use Rattle.constraint_cycles.proofs.RootMarks.{begun_first, begun_other, root_kept, root_taken, root_unused}
use Rattle.constraint_cycles.proofs.order.Order.root.Goals as goal
use Rattle.constraint_cycles.proofs.order.Order.root.Goals.{then-pair-eq0, else-pair-eq0}

pub loop-pair-preserved : goal.loop-pair-preserved
loop-pair-preserved c =
    elim c.if-pair-eq0.branch [
      | then-pair-eq0 w ↦ rw (w.marks-is, w.fixed-is) (begun_first _ _ _ _ _ c.pair.ensures w.if-pair-eq0.true c.loop-pair.invariant)
      | else-pair-eq0 w ↦ rw (w.marks-is, w.fixed-is) (begun_other _ _ _ _ _ c.pair.ensures w.if-pair-eq0.false c.loop-pair.invariant)
    ]

pub invariant_of-result : goal.invariant_of-result
invariant_of-result c = record {
  few = search rules;
  unused = rw c.pair_count-pairs.ensures (root_unused _ _ _ _ _ (rw (← c.pair_count-pairs.ensures) c.loop-pair-test.false) c.loop-pair.invariant);
  held = rw c.pair_count-pairs.ensures (root_kept _ _ _ _ _ (c.pair_laws.ensures.rising (matrix_of c.args.conflicts.now)) (search rules) (rw (← c.pair_count-pairs.ensures) c.loop-pair-test.false) c.loop-pair.invariant);
}

pub returns-clause-marks : goal.returns-clause-marks
returns-clause-marks c = rw (c.pair_count-pairs.ensures, ← c.links-links.ensures.value) (root_taken _ _ _ _ _ (search rules) (rw (← c.pair_count-pairs.ensures) c.loop-pair-test.false) c.loop-pair.invariant)
