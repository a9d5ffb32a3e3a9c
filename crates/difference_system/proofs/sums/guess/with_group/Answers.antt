use Rattle.std.proofs.Common.{sym, ◌∙◌, ◌==◌}
use Rattle.std.proofs.lemmas.Map.Keys.{IsDistinct-cons}
use Rattle.difference_system.proofs.IsState.{lacks}
use Rattle.difference_system.proofs.sums.guess.with_group.Goals as goal

pub returns-clause-once : goal.returns-clause-once
returns-clause-once c =
    rw c.push.ensures (IsDistinct-cons (λ g h. g == h) _ c.args.trail.now (lacks _ c.args.trail.now (sym c.holds.ensures ∙ c.if-holds.false)) c.requires.once)
