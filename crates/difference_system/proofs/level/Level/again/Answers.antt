use Rattle.std.proofs.Common.{◌∙◌}
use Rattle.difference_system.specs.Level.{decision_of}
use Rattle.difference_system.proofs.Levels.{next_mark}
use Rattle.difference_system.proofs.level.Level.again.Goals as goal

pub returns-clause-decision : goal.returns-clause-decision
returns-clause-decision c = c.next.ensures.decision ∙ next_mark (decision_of c.args.below.now) (decision_of c.args.self.now) c.mark-mark.result c.requires.next c.mark-mark.ensures
