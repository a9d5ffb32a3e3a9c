use Rattle.certificate_checker.proofs.Proves.{part_law}
use Rattle.certificate_checker.proofs.laws.part_law.Goals as goal

pub returns : goal.returns
returns c = part_law c.closed_cycle_law.ensures
