use Rattle.least_greens.specs.NeedClosure.{IsQuestion-prop}
use Rattle.capacity_search.proofs.greatest.capacity.Goals as goal

pub greatest-requires : goal.greatest-requires
greatest-requires c = λ target cycle i question. ((IsQuestion-prop c.args.junction.now target cycle i, question), λ given gives. gives.1)
