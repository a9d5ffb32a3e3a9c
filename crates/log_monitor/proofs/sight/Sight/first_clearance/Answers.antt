use Rattle.std.proofs.Common.{arith, refl}
use Rattle.log_monitor.proofs.SightCases.{none_from_more, first_pair}
use Rattle.log_monitor.proofs.sight.Sight.first_clearance.Goals as goal

pub returns-in-Some : goal.returns-in-Some
returns-in-Some c =
    let found = c.in-Some.ensures in
    rw (c.from.ensures, c.from-in-Some.ensures) (first_pair c.args.self.now c.loop-i.i _ _ _ c.loop-i.invariant found.0 found.1 refl)

pub loop-i-preserved : goal.loop-i-preserved
loop-i-preserved c = none_from_more c.args.self.now c.loop-i.i c.loop-i.invariant (rw c.in_default.is at c.first_after.ensures)

pub returns : goal.returns
returns c = λ i j u inside breaks. c.loop-i.invariant i j u (omega (arith, inside, c.requires.whole.row)) breaks
