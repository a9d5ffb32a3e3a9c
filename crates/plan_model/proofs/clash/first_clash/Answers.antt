use Rattle.std.proofs.Common.{length, ap, arith, below_more}
use Rattle.plan_model.proofs.clash.first_clash.Goals as goal

pub loop-i-preserved : goal.loop-i-preserved
loop-i-preserved c = below_more _ _ c.loop-i.invariant (λ some. c.in_default.ensures some.0 some.1 some.2)

pub returns : goal.returns
returns c k h = c.loop-i.invariant k (omega (arith, ap length c.groups-i-end.ensures.value))
