use Rattle.least_greens.specs.NeedClosure.{IsQuestion-prop}
use Rattle.claim_conformance.proofs.of_cycle_orders.found.Goals as goal

pub searched-requires : goal.searched-requires
searched-requires g c = λ target cycle group question. ((IsQuestion-prop c.args.junction.now target cycle group, question), λ given is. is.1)
