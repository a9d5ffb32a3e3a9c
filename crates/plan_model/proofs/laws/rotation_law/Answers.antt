use Rattle.plan_model.proofs.RotationLaw.{rotation_law}
use Rattle.plan_model.proofs.laws.rotation_law.Goals as goal

pub returns-clause-any : goal.returns-clause-any
returns-clause-any c = rotation_law
