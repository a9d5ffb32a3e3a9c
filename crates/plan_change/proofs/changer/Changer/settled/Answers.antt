use Rattle.std.proofs.Common.{[], ◌≡◌, ap, ◌∙◌, arith}
use Rattle.plan_change.specs.Changer.{junction_in, first_in}
use Rattle.plan_change.specs.Changes.{settled_at}
use Rattle.plan_change.proofs.changer.Changer.settled.Goals as goal

pub returns-clause-none : goal.returns-clause-none
returns-clause-none c = λ none.
    let self = c.args.self.now in
    let first : settled_at (junction_in self) (first_in self) [] ≡ 0 = omega arith in
    self.agrees.settles ∙ ap (settled_at (junction_in self) (first_in self)) none ∙ first
