use Rattle.std.proofs.Common.{arith}
use Rattle.std.proofs.lemmas.Nat.Gcd.{IsGcd-from_zero, IsGcd-from_mod}
use Rattle.std.proofs.Math.Nat.{pos_of_dvd_of_pos}
use Rattle.delay_report.proofs.divisor.greatest_divisor.Goals as goal

pub loop-y-preserved : goal.loop-y-preserved
loop-y-preserved c g h = c.loop-y.invariant g (IsGcd-from_mod _ _ g h)

pub returns-clause-positive : goal.returns-clause-positive
returns-clause-positive c = pos_of_dvd_of_pos (c.loop-y.invariant _ (IsGcd-from_zero _ _ (omega arith))).1 c.requires

pub returns-clause-greatest : goal.returns-clause-greatest
returns-clause-greatest c = c.loop-y.invariant _ (IsGcd-from_zero _ _ (omega arith))
