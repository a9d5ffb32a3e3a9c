use Rattle.least_greens.specs.NeedClosure.{IsQuestion-prop}
use Rattle.claim_conformance.proofs.of_cycle_orders.rules.a_rule_that_counts.Goals as goal

pub searched-requires : goal.searched-requires
searched-requires g c =
    λ target cycle group question. ((IsQuestion-prop c.in_ok-junction.junction target cycle group, question), λ given is. is.1)
