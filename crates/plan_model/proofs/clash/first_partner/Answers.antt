use Rattle.std.proofs.Common.{length, ap, arith, below_more}
use Rattle.plan_model.proofs.clash.first_partner.Goals as goal

pub loop-j-preserved : goal.loop-j-preserved
loop-j-preserved c = below_more _ _ c.loop-j.invariant (λ some. c.in_default.ensures some.0 some.1 some.2)

pub returns : goal.returns
returns c k h = c.loop-j.invariant k (omega (arith, ap length c.groups-j-end.ensures.value))
