use Rattle.std.proofs.Common.{arith}
use Rattle.cycle_curve.proofs.LineParts.{count_here, count_past, count_all}
use Rattle.cycle_curve.proofs.lines.line_count.Goals as goal
use Rattle.cycle_curve.proofs.lines.line_count.Goals.{then-bytes-at-eq-LINE_FEED, else-bytes-at-eq-LINE_FEED}

pub loop-at-preserved : goal.loop-at-preserved
loop-at-preserved c = elim c.if-bytes-at-eq-LINE_FEED.branch [
  | then-bytes-at-eq-LINE_FEED w ↦ rw w.count-is (record {
    few = omega (arith, c.loop-at.invariant.few);
    counted = count_here c.args.bytes.now c.loop-at.at c.loop-at.count c.loop-at-test.true w.if-bytes-at-eq-LINE_FEED.true c.loop-at.invariant.counted;
  })
  | else-bytes-at-eq-LINE_FEED w ↦ rw w.count-is (record {
    few = omega (arith, c.loop-at.invariant.few);
    counted = count_past c.args.bytes.now c.loop-at.at c.loop-at.count c.loop-at-test.true w.if-bytes-at-eq-LINE_FEED.false c.loop-at.invariant.counted;
  })
]

pub returns : goal.returns
returns c = count_all c.args.bytes.now c.loop-at.at c.loop-at.count c.loop-at-test.false c.loop-at.invariant.counted
