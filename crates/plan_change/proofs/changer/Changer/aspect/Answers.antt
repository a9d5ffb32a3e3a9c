use Rattle.std.proofs.Common.{Some, ap, ◌∙◌}
use Rattle.plan_model.specs.Plan.{plan_of}
use Rattle.plan_model.proofs.IsShown.{group_there}
use Rattle.plan_change.specs.Heads.{aspect_of_head, head_at}
use Rattle.plan_change.specs.Changer.{requests_in}
use Rattle.plan_change.proofs.Agreeing.{shows}
use Rattle.plan_change.proofs.changer.Changer.aspect.Goals as goal

pub returns : goal.returns
returns c =
    let self = c.args.self.now in
    let there = group_there self.junction.now c.args.group c.requires in
    let own = shows self.junction.now (plan_of self.first) (requests_in self) self.second (plan_of self.plan) self.settled self.heads c.rules.ensures self.agrees
    c.args.group there.0 c.requires there.1 in
    rw there.1 (ap Some (c.shown.ensures ∙ ap (λ x. aspect_of_head (head_at self.heads c.args.group) x) c.times_of.ensures.value ∙ own))
