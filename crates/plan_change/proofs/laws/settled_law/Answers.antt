use Rattle.plan_change.proofs.Settled.{settled_law, settled_soon_law}
use Rattle.plan_change.proofs.Plain.{plain_law}
use Rattle.plan_change.proofs.laws.settled_law.Goals as goal

pub returns-clause-played : goal.returns-clause-played
returns-clause-played c = settled_law

pub returns-clause-soon : goal.returns-clause-soon
returns-clause-soon c = settled_soon_law

pub returns-clause-plain : goal.returns-clause-plain
returns-clause-plain c = plain_law
