use Rattle.plan_model.specs.Plan.{plan_of}
use Rattle.plan_change.specs.Changer.{requests_in}
use Rattle.plan_change.proofs.Agreeing.{standing_fits, counting, later_agrees}
use Rattle.plan_change.proofs.changer.Changer.tick.Goals as goal

pub later_heads-heads-requires-clause-fits : goal.later_heads-heads-requires-clause-fits
later_heads-heads-requires-clause-fits c =
    let self = c.args.self.now in
    standing_fits self.junction.now (plan_of self.first) (requests_in self) self.second (plan_of self.plan) self.settled self.heads c.rules.ensures self.agrees

pub later_heads-heads-requires-clause-counting : goal.later_heads-heads-requires-clause-counting
later_heads-heads-requires-clause-counting c =
    let self = c.args.self.now in
    counting self.junction.now (plan_of self.first) (requests_in self) self.second (plan_of self.plan) self.settled self.heads c.rules.ensures self.agrees

pub invariant_of-self : goal.invariant_of-self
invariant_of-self c =
    let self = c.args.self.now in
    record {
      agrees = later_agrees self.junction.now (plan_of self.first) (requests_in self) self.second (plan_of self.plan) self.settled self.heads c.rules.ensures self.agrees
          c.later_heads-heads.result c.later_heads-heads.ensures;
    }
