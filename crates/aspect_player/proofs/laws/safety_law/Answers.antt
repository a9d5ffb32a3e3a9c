use Rattle.aspect_player.proofs.Safety.{safety_law}
use Rattle.aspect_player.proofs.laws.safety_law.Goals as goal

pub returns : goal.returns
returns c = safety_law
