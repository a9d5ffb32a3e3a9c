use Rattle.std.proofs.Common.{arith}
use Rattle.std.proofs.lemmas.List.{length-take}
use Rattle.std.proofs.Math.Seq.{take-set-lt}
use Rattle.constraint_cycles.proofs.order.Order.set.Goals as goal

pub returns-clause-marks : goal.returns-clause-marks
returns-clause-marks c = take-set-lt _ _ _ _ (omega (arith, c.requires.below, length-take c.args.self.now.count c.args.self.now.marks))
