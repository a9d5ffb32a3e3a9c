use Rattle.plan_model.proofs.AllLanes.{all_lanes_target_law, all_lanes_multiplier_law}
use Rattle.plan_model.proofs.laws.all_lanes_law.Goals as goal

pub returns-clause-target : goal.returns-clause-target
returns-clause-target c = all_lanes_target_law

pub returns-clause-multiplier : goal.returns-clause-multiplier
returns-clause-multiplier c = all_lanes_multiplier_law
