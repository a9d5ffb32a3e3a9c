use Rattle.cycle_curve.proofs.LineParts.{feed_here, other_here, none_behind}
use Rattle.cycle_curve.proofs.lines.line_end.Goals as goal

pub returns-then-bytes-end-eq-LINE_FEED-clause-lines : goal.returns-then-bytes-end-eq-LINE_FEED-clause-lines
returns-then-bytes-end-eq-LINE_FEED-clause-lines c = feed_here c.args.bytes.now c.loop-end.end c.loop-end-test.true c.if-bytes-end-eq-LINE_FEED.true c.loop-end.invariant

pub loop-end-preserved : goal.loop-end-preserved
loop-end-preserved c = other_here c.args.bytes.now c.loop-end.end c.loop-end-test.true c.if-bytes-end-eq-LINE_FEED.false c.loop-end.invariant

pub unreachable-requires : goal.unreachable-requires
unreachable-requires c = none_behind c.args.bytes.now c.loop-end.end c.loop-end-test.false c.loop-end.invariant c.requires
