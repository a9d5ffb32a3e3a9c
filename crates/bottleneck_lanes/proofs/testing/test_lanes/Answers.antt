use Rattle.least_greens.specs.NeedClosure.{IsQuestion-prop}
use Rattle.bottleneck_lanes.proofs.testing.test_lanes.Goals as goal

pub tested-requires : goal.tested-requires
tested-requires c = λ target cycle i question. ((IsQuestion-prop c.args.junction.now target cycle i, question), λ given gives. gives.1)
