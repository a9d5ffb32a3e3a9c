use Rattle.sig_base.specs.First.{NoneBelow}
use Rattle.log_monitor.specs.Sight.{BreaksAmberOf}
use Rattle.log_monitor.proofs.sight.Sight.first_amber.Given as goal

abbrev pub invariant-loop-i : goal.invariant-loop-i
invariant-loop-i l = NoneBelow (BreaksAmberOf l.self) l.i
