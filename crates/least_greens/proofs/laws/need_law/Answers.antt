use Rattle.least_greens.proofs.NeedOf.{need_law, one_need_law, rising_need_law, enough_law}
use Rattle.least_greens.proofs.laws.need_law.Goals as goal

pub returns-clause-is : goal.returns-clause-is
returns-clause-is c = need_law

pub returns-clause-one : goal.returns-clause-one
returns-clause-one c = one_need_law

pub returns-clause-rising : goal.returns-clause-rising
returns-clause-rising c = rising_need_law

pub returns-clause-enough : goal.returns-clause-enough
returns-clause-enough c = enough_law c.serving_law.ensures.lane
