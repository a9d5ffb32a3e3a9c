use Rattle.plan_model.proofs.LaneMultiplier.{lane_denominator_law}
use Rattle.plan_model.proofs.MultiplierLaws.{some_multiplier_law, one_multiplier_law, plan_multiplier_law, all_lanes_flow_law}
use Rattle.plan_model.proofs.laws.multiplier_law.Goals as goal

pub returns-clause-denominator : goal.returns-clause-denominator
returns-clause-denominator c = lane_denominator_law

pub returns-clause-some : goal.returns-clause-some
returns-clause-some c = some_multiplier_law

pub returns-clause-one : goal.returns-clause-one
returns-clause-one c = one_multiplier_law

pub returns-clause-plan : goal.returns-clause-plan
returns-clause-plan c = plan_multiplier_law

pub returns-clause-flow : goal.returns-clause-flow
returns-clause-flow c = all_lanes_flow_law
