use Rattle.log_monitor.proofs.Prefix.{prefix_law}
use Rattle.log_monitor.proofs.MemoryAfter.{memory_law}
use Rattle.log_monitor.proofs.NextLaw.{next_law}
use Rattle.log_monitor.proofs.laws.monitor_laws.Goals as goal

pub returns-clause-prefix : goal.returns-clause-prefix
returns-clause-prefix c = prefix_law

pub returns-clause-memory : goal.returns-clause-memory
returns-clause-memory c = memory_law

pub returns-clause-next : goal.returns-clause-next
returns-clause-next c = next_law
