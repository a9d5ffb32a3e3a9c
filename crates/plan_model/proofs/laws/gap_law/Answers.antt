use Rattle.plan_model.proofs.Gaps.{gap_law, spacing_law}
use Rattle.plan_model.proofs.laws.gap_law.Goals as goal

pub returns-clause-clear : goal.returns-clause-clear
returns-clause-clear c = gap_law

pub returns-clause-fits : goal.returns-clause-fits
returns-clause-fits c = spacing_law
