use Rattle.std.proofs.Common.{arith}
use Rattle.plan_model.specs.Fits.{group_count}
use Rattle.log_monitor.specs.Monitor.{watched}
use Rattle.log_monitor.proofs.GroupMemories.{remembered_all}
use Rattle.log_monitor.proofs.monitor.Monitor.remember.Goals as goal

pub returns-clause-memory : goal.returns-clause-memory
returns-clause-memory c = remembered_all c.args.number c.args.self.now.rows (group_count (watched c.args.self.now)) c.args.row.now c.args.self.now.groups c.loop-i.groups c.loop-i.i
    c.loop-i.invariant (omega arith) c.requires.groups (omega (arith, c.rules.ensures.groups.few)) c.requires.number
