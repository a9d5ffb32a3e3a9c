use Rattle.plan_model.proofs.Serving.{lane_serving_law, serving_law}
use Rattle.plan_model.proofs.laws.serving_law.Goals as goal

pub returns-clause-lane : goal.returns-clause-lane
returns-clause-lane c = lane_serving_law

pub returns-clause-plan : goal.returns-clause-plan
returns-clause-plan c = serving_law
