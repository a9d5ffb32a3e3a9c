use Rattle.std.proofs.Common.{arith}
use Rattle.log_monitor.proofs.SightCases.{none_to_more, none_to_all}
use Rattle.log_monitor.proofs.sight.Sight.first_after.Goals as goal

pub loop-j-preserved : goal.loop-j-preserved
loop-j-preserved c = none_to_more c.args.self.now c.args.i c.loop-j.j c.loop-j.invariant (rw c.in_default.is at c.clearance.ensures)

pub returns : goal.returns
returns c = none_to_all c.args.self.now c.args.i c.loop-j.j (omega arith) c.loop-j.invariant
