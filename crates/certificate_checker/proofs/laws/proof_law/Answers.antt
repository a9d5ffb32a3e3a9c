use Rattle.certificate_checker.proofs.Proves.{proof_law}
use Rattle.certificate_checker.proofs.laws.proof_law.Goals as goal

pub returns : goal.returns
returns c = proof_law c.closed_cycle_law.ensures
