use Rattle.log_monitor.specs.Sight.{NoneTo}
use Rattle.log_monitor.proofs.sight.Sight.first_after.Given as goal

abbrev pub invariant-loop-j : goal.invariant-loop-j
invariant-loop-j l = NoneTo l.self l.i l.j
