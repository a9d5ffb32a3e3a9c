use Rattle.std.proofs.Common.{rules}
use Rattle.least_greens.specs.NeedClosure.{IsQuestion}
use Rattle.least_greens.proofs.rule.NeedRule.ask.Goals as goal

pub returns-clause-need : goal.returns-clause-need
returns-clause-need g c =
    let a = c.args in
    let question : IsQuestion a.self.now.junction.now a.target a.cycle a.group = search rules in
    (a.self.now.answers a.target a.cycle a.group question).1 _ c.call_need.ensures
