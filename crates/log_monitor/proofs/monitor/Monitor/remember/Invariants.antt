use Rattle.log_monitor.proofs.GroupMemories.{IsRemembering}
use Rattle.log_monitor.proofs.monitor.Monitor.remember.Given as goal

abbrev pub invariant-loop-i : goal.invariant-loop-i
invariant-loop-i l = IsRemembering l.number l.row l.self.groups l.i l.groups
