use Rattle.least_greens.specs.NeedClosure.{IsQuestion-prop}
use Rattle.conformance.proofs.of_least_greens.a_rule_that_counts.Goals as goal

pub asked-found-requires-clause-answers : goal.asked-found-requires-clause-answers
asked-found-requires-clause-answers g c =
    λ target cycle group question. ((IsQuestion-prop c.in_ok-junction.junction target cycle group, question), λ given is. is.1)
