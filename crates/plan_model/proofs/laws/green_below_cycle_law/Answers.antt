use Rattle.plan_model.proofs.GreenBelowCycle.{green_below_cycle_law, amber_below_cycle_law}
use Rattle.plan_model.proofs.laws.green_below_cycle_law.Goals as goal

pub returns-clause-green : goal.returns-clause-green
returns-clause-green c = green_below_cycle_law

pub returns-clause-amber : goal.returns-clause-amber
returns-clause-amber c = amber_below_cycle_law
