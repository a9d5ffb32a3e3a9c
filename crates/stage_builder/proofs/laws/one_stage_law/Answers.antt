use Rattle.stage_builder.proofs.OneStage.{one_stage_law}
use Rattle.stage_builder.proofs.laws.one_stage_law.Goals as goal

pub returns : goal.returns
returns c = one_stage_law
