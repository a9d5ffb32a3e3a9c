use Rattle.std.proofs.Common.{ap, subst, length, arith}
use Rattle.std.proofs.lemmas.List.{length-map}
use Rattle.cycle_curve.specs.Judged.{IsRowVerdict}
use Rattle.cycle_curve.specs.Curve.{row_of}
use Rattle.cycle_curve.proofs.Rows.{row_at, row_within}
use Rattle.cycle_curve.proofs.RowVerdicts.{proved_next, partial_next, at_fault, all_judged}
use Rattle.cycle_curve.proofs.checking.rows_verdict.Goals as goal
use Rattle.cycle_curve.proofs.checking.rows_verdict.Goals.{in-Proved, in-Partial}

pub row_verdict-requires-clause-from : goal.row_verdict-requires-clause-from
row_verdict-requires-clause-from c =
    let at = row_at c.args.rows.now c.items-row-items.result.now c.loop-row.row-index c.row-item.result c.items-row-items.ensures c.loop-row-test.true c.row-item.is in
    (row_within c.args.junction.now c.args.rows.now c.loop-row.row-index (row_of c.row-item.result) c.rules.ensures c.requires.of_junction at).0

pub row_verdict-requires-clause-to : goal.row_verdict-requires-clause-to
row_verdict-requires-clause-to c =
    let at = row_at c.args.rows.now c.items-row-items.result.now c.loop-row.row-index c.row-item.result c.items-row-items.ensures c.loop-row-test.true c.row-item.is in
    (row_within c.args.junction.now c.args.rows.now c.loop-row.row-index (row_of c.row-item.result) c.rules.ensures c.requires.of_junction at).1

pub row_verdict-requires-clause-in_range : goal.row_verdict-requires-clause-in_range
row_verdict-requires-clause-in_range c =
    let at = row_at c.args.rows.now c.items-row-items.result.now c.loop-row.row-index c.row-item.result c.items-row-items.ensures c.loop-row-test.true c.row-item.is in
    c.requires.each c.loop-row.row-index (row_of c.row-item.result) at

pub returns-in_default : goal.returns-in_default
returns-in_default c =
    let at = row_at c.args.rows.now c.items-row-items.result.now c.loop-row.row-index c.row-item.result c.items-row-items.ensures c.loop-row-test.true c.row-item.is in
    at_fault c.args.junction.now c.args.rows.now c.loop-row.row-index (row_of c.row-item.result) at c.loop-row.verdict c.in_ok-fault.fault c.loop-row.invariant c.in_ok-fault.ensures
    c.in_default.not-Proved c.in_default.not-Partial

pub loop-row-preserved : goal.loop-row-preserved
loop-row-preserved c =
    let at = row_at c.args.rows.now c.items-row-items.result.now c.loop-row.row-index c.row-item.result c.items-row-items.ensures c.loop-row-test.true c.row-item.is in
    elim c.match-branch-2.branch [
      | in-Proved w ↦ rw w.verdict-is (proved_next c.args.junction.now c.args.rows.now c.loop-row.row-index (row_of c.row-item.result) at c.loop-row.verdict
          (subst (IsRowVerdict c.args.junction.now (row_of c.row-item.result)) w.in-Proved.is c.in_ok-fault.ensures) c.loop-row.invariant)
      | in-Partial w ↦ rw w.verdict-is (partial_next c.args.junction.now c.args.rows.now c.loop-row.row-index (row_of c.row-item.result) at c.loop-row.verdict
          (subst (IsRowVerdict c.args.junction.now (row_of c.row-item.result)) w.in-Partial.is c.in_ok-fault.ensures) c.loop-row.invariant)
    ]

pub returns : goal.returns
returns c = all_judged c.args.junction.now c.args.rows.now c.loop-row.row-index c.loop-row.verdict
    (omega (arith, c.loop-row-test.false, c.loop-row.auto.row-index-end, ap length c.items-row-items.ensures, length-map c.items-row-items.result.now row_of)) c.loop-row.invariant
