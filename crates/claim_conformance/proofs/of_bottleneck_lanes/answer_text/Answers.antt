use Rattle.bottleneck_lanes.specs.Answer.{ShowsBest}
use Rattle.claim_conformance.proofs.of_bottleneck_lanes.answer_text.Goals as goal

pub bottleneck-requires : goal.bottleneck-requires
bottleneck-requires c =
    let greatest = rw c.in-Optimal.is at c.in_ok-best.ensures.greatest in
    let plan = rw c.in-Optimal.is at c.in_ok-best.ensures.plan in
    rw plan.own (c.critical_law.ensures.beside _ _ _ _ c.rules.ensures greatest.is greatest.trees greatest.closed)
