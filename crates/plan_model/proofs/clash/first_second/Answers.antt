use Rattle.std.proofs.Common.{below_more}
use Rattle.std.proofs.lemmas.Bool.{false≢true}
use Rattle.plan_model.proofs.clash.first_second.Goals as goal

pub loop-second-preserved : goal.loop-second-preserved
loop-second-preserved c = below_more _ _ c.loop-second.invariant (λ clash. false≢true (c.if-clashes_at.ensures.1 clash))
