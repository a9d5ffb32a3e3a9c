use Rattle.log_monitor.proofs.SightCases.{first_amber, first_minimum, none_next}
use Rattle.log_monitor.proofs.sight.Sight.first_violation.Goals as goal

pub returns-in-Some-first_amber : goal.returns-in-Some-first_amber
returns-in-Some-first_amber c = first_amber c.args.self.now c.requires.whole (rw c.in_default.is at c.first_clearance.ensures)
    c.in-Some-first_amber.i c.from.result c.in-Some-first_amber.ensures c.from.ensures

pub returns-in-Some-first_minimum : goal.returns-in-Some-first_minimum
returns-in-Some-first_minimum c = first_minimum c.args.self.now c.requires.whole (rw c.in_default.is at c.first_clearance.ensures)
    (rw c.in_default-first_amber.is at c.first_amber.ensures)
    c.in-Some-first_minimum.i c.from-in-Some-first_minimum.result c.in-Some-first_minimum.ensures c.from-in-Some-first_minimum.ensures

pub returns : goal.returns
returns c = none_next c.args.self.now c.requires.whole (rw c.in_default.is at c.first_clearance.ensures)
    (rw c.in_default-first_amber.is at c.first_amber.ensures) (rw c.in_default-first_minimum.is at c.first_minimum.ensures)
