use Rattle.plan_design.proofs.Ranges.{shown_range_law, stopped_range_law}
use Rattle.plan_design.proofs.IsShown.{greatest_shown_law, shortest_shown_law, exhausted_shown_law}
use Rattle.plan_design.proofs.StoppedTrees.{stopped_shown_law}
use Rattle.plan_design.proofs.PassedPlans.{passed_shown_law}
use Rattle.plan_design.proofs.laws.shown_law.Goals as goal

pub returns-clause-greatest : goal.returns-clause-greatest
returns-clause-greatest c = greatest_shown_law c.rising_law.ensures.walk c.rising_law.ensures.cycle c.closed_cycle_law.ensures c.proof_law.ensures

pub returns-clause-shortest : goal.returns-clause-shortest
returns-clause-shortest c = shortest_shown_law c.rising_law.ensures.walk c.proof_law.ensures

pub returns-clause-exhausted : goal.returns-clause-exhausted
returns-clause-exhausted c = exhausted_shown_law c.rising_law.ensures.walk c.proof_law.ensures

pub returns-clause-stopped : goal.returns-clause-stopped
returns-clause-stopped c = stopped_shown_law c.rising_law.ensures.walk c.fault_law.ensures c.part_law.ensures

pub returns-clause-passed : goal.returns-clause-passed
returns-clause-passed c = passed_shown_law c.own_order_law.ensures.one c.root_law.ensures c.pair_laws.ensures.sum

pub returns-clause-shown_range : goal.returns-clause-shown_range
returns-clause-shown_range c = shown_range_law

pub returns-clause-stopped_range : goal.returns-clause-stopped_range
returns-clause-stopped_range c = stopped_range_law
