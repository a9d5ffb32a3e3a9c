use Rattle.std.proofs.Common.{rules, below_more}
use Rattle.junction_model.proofs.rules.each_has_partner.Goals as goal

pub loop-i-preserved : goal.loop-i-preserved
loop-i-preserved c = below_more _ _ c.loop-i.invariant (c.has_partner.ensures.0 (search rules))
