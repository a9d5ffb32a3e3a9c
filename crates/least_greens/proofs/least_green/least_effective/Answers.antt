use Rattle.least_greens.proofs.LeastEffective.{reached_by, beaten_by}
use Rattle.least_greens.proofs.least_green.least_effective.Goals as goal

pub returns-in-Reach-clause-exactly : goal.returns-in-Reach-clause-exactly
returns-in-Reach-clause-exactly c = λ effective. rw (c.in-Reach.is, c.div_ceil.ensures, c.asked.ensures.value, c.served.ensures.value)
    (reached_by c.args.lane.now c.in-Reach.least c.args.cycle effective (rw c.served.ensures.value at c.served.ensures.some))

pub returns-in-Beat-clause-exactly : goal.returns-in-Beat-clause-exactly
returns-in-Beat-clause-exactly c = λ effective. rw (c.in-Beat.is, c.asked-in-Beat.ensures.value, c.served-in-Beat.ensures.value)
    (beaten_by c.args.lane.now c.in-Beat.most c.args.cycle effective (rw c.served-in-Beat.ensures.value at c.served-in-Beat.ensures.some))
