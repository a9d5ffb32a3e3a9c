use Rattle.sample_junctions.proofs.OneSample.{sample_law}
use Rattle.sample_junctions.proofs.laws.sample_law.Goals as goal

pub returns : goal.returns
returns c = sample_law
