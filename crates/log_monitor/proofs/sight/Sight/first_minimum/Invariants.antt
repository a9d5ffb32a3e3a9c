use Rattle.sig_base.specs.First.{NoneBelow}
use Rattle.log_monitor.specs.Sight.{BreaksMinimumOf}
use Rattle.log_monitor.proofs.sight.Sight.first_minimum.Given as goal

abbrev pub invariant-loop-i : goal.invariant-loop-i
invariant-loop-i l = NoneBelow (BreaksMinimumOf l.self) l.i
