use Rattle.plan_change.proofs.Stays.{own_second_law, last_schedule_law}
use Rattle.plan_change.proofs.Past.{shared_past_law}
use Rattle.plan_change.proofs.laws.past_law.Goals as goal

pub returns-clause-own_second : goal.returns-clause-own_second
returns-clause-own_second c = own_second_law

pub returns-clause-last : goal.returns-clause-last
returns-clause-last c = last_schedule_law

pub returns-clause-shared : goal.returns-clause-shared
returns-clause-shared c = shared_past_law
