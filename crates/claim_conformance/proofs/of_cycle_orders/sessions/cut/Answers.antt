use Rattle.least_greens.specs.NeedClosure.{IsQuestion-prop}
use Rattle.claim_conformance.proofs.of_cycle_orders.sessions.cut.Goals as goal

pub stepped-requires : goal.stepped-requires
stepped-requires g c = λ target cycle group question. ((IsQuestion-prop c.args.junction.now target cycle group, question), λ given is. is.1)
