-- What contracts see of a rule of needs.
use Rattle.sig_base.specs.declared.lane_set.LaneSet.{LaneSet}
use Rattle.junction_model.specs.Junction.{JunctionView}
use Rattle.least_greens.specs.declared.rule.NeedClosure.{Ghosts}
use Rattle.least_greens.specs.declared.rule.NeedRule.{NeedRule}

abbrev pub rule_junction : {F : Type 0} {asked : Ghosts F} → NeedRule F asked → JunctionView
rule_junction rule = rule.junction.now

abbrev pub rule_lanes : {F : Type 0} {asked : Ghosts F} → NeedRule F asked → LaneSet
rule_lanes rule = rule.lanes

abbrev pub rule_closure : {F : Type 0} {asked : Ghosts F} → NeedRule F asked → F
rule_closure rule = rule.closure
