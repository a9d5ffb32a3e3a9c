use Rattle.plan_stretch.proofs.StretchLaw.{stretch_law}
use Rattle.plan_stretch.proofs.laws.stretch_law.Goals as goal

pub returns : goal.returns
returns c = stretch_law
