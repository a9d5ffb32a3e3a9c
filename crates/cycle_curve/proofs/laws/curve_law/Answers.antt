use Rattle.cycle_curve.proofs.NarrowedPlans.{narrowed_plans_law, row_law, curve_law}
use Rattle.cycle_curve.proofs.AcceptedRows.{accepted_law}
use Rattle.cycle_curve.proofs.laws.curve_law.Goals as goal

pub returns-clause-plans : goal.returns-clause-plans
returns-clause-plans c = narrowed_plans_law

pub returns-clause-row : goal.returns-clause-row
returns-clause-row c = row_law c.proof_law.ensures

pub returns-clause-curve : goal.returns-clause-curve
returns-clause-curve c = curve_law c.proof_law.ensures

pub returns-clause-accepted : goal.returns-clause-accepted
returns-clause-accepted c = accepted_law c.rules_law.ensures
