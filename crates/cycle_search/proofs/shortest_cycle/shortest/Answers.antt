use Rattle.least_greens.specs.NeedClosure.{IsQuestion-prop}
use Rattle.cycle_search.proofs.shortest_cycle.shortest.Goals as goal

pub first-requires : goal.first-requires
first-requires c = λ target cycle i question. ((IsQuestion-prop c.args.junction.now target cycle i, question), λ given gives. gives.1)
