use Rattle.delay_report.proofs.DelayLaw.{delay_law}
use Rattle.delay_report.proofs.laws.delay_law.Goals as goal

pub returns : goal.returns
returns c = delay_law
