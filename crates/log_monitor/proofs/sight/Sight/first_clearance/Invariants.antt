use Rattle.log_monitor.specs.Sight.{NoneFrom}
use Rattle.log_monitor.proofs.sight.Sight.first_clearance.Given as goal

abbrev pub invariant-loop-i : goal.invariant-loop-i
invariant-loop-i l = NoneFrom l.self l.i
