use Rattle.least_greens.specs.NeedClosure.{IsQuestion-prop}
use Rattle.bottleneck_lanes.proofs.Needs.{all_closes}
use Rattle.bottleneck_lanes.proofs.trimming.trimmed.Goals as goal

pub trim_each-requires-clause-answers : goal.trim_each-requires-clause-answers
trim_each-requires-clause-answers c = λ target cycle i question. ((IsQuestion-prop c.args.junction.now target cycle i, question), λ given gives. gives.1)

pub trim_each-requires-clause-closes : goal.trim_each-requires-clause-closes
trim_each-requires-clause-closes c = all_closes c.args.junction.now c.rules.ensures c.args.multiple c.args.lanes c.args.given.now c.requires.each c.requires.closes
