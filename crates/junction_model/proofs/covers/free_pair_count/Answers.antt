use Rattle.std.proofs.Common.{arith}
use Rattle.std.proofs.lemmas.List.{take_all}
use Rattle.conflict_matrix.specs.Conflicts.{matrix_of, pairs_of}
use Rattle.conflict_matrix.proofs.FreePairs.{one_more_free, no_more_free, free_pairs_few}
use Rattle.junction_model.proofs.covers.free_pair_count.Goals as goal
use Rattle.junction_model.proofs.covers.free_pair_count.Goals.{then-pair-ne0, else-pair-ne0}

pub loop-number-preserved : goal.loop-number-preserved
loop-number-preserved c =
    elim c.if-pair-ne0.branch [
      | then-pair-ne0 w ↦
          omega (arith, w.free-is, c.loop-number.invariant, one_more_free (pairs_of (matrix_of c.args.conflicts.now)) c.loop-number.number c.pair.result c.pair.ensures w.if-pair-ne0.true)
      | else-pair-ne0 w ↦
          omega (arith, w.free-is, c.loop-number.invariant, no_more_free (pairs_of (matrix_of c.args.conflicts.now)) c.loop-number.number c.pair.result c.pair.ensures w.if-pair-ne0.false)
    ]

pub returns-clause-few : goal.returns-clause-few
returns-clause-few c =
    let all = rw (take_all c.loop-number.number (pairs_of (matrix_of c.args.conflicts.now)) (omega arith)) at c.loop-number.invariant.0 in
    omega (arith, all, free_pairs_few (matrix_of c.args.conflicts.now) c.args.conflicts.now.table)
