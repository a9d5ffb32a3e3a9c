use Rattle.std.proofs.Common.{below_more, arith}
use Rattle.std.proofs.lemmas.Bool.{both_ways}
use Rattle.conflict_matrix.proofs.pairing.first_lonely.Goals as goal

pub loop-group-preserved : goal.loop-group-preserved
loop-group-preserved c = below_more _ _ c.loop-group.invariant (λ lonely. both_ways _ c.if-is_lonely.false (c.is_lonely.ensures.1 lonely))

pub returns : goal.returns
returns c = λ k h. c.loop-group.invariant k (omega arith)
