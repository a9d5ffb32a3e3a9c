use Rattle.cycle_orders.proofs.JoinedTrees.{no_plan_law, better_plan_law, stopped_law, greatest_law, exhausted_law, shortest_law}
use Rattle.cycle_orders.proofs.joined.joined_law.Goals as goal

pub returns-clause-no_plan : goal.returns-clause-no_plan
returns-clause-no_plan c = no_plan_law c.rising_law.ensures.walk c.rising_law.ensures.cycle c.closed_cycle_law.ensures

pub returns-clause-better : goal.returns-clause-better
returns-clause-better c = better_plan_law c.rising_law.ensures.walk c.rising_law.ensures.cycle c.closed_cycle_law.ensures

pub returns-clause-stopped : goal.returns-clause-stopped
returns-clause-stopped c = stopped_law c.rising_law.ensures.walk c.rising_law.ensures.cycle c.closed_cycle_law.ensures

pub returns-clause-greatest : goal.returns-clause-greatest
returns-clause-greatest c = greatest_law c.rising_law.ensures.walk c.rising_law.ensures.cycle c.closed_cycle_law.ensures

pub returns-clause-exhausted : goal.returns-clause-exhausted
returns-clause-exhausted c = exhausted_law c.rising_law.ensures.walk c.rising_law.ensures.cycle c.closed_cycle_law.ensures

pub returns-clause-shortest : goal.returns-clause-shortest
returns-clause-shortest c = shortest_law c.rising_law.ensures.walk c.rising_law.ensures.cycle c.closed_cycle_law.ensures
