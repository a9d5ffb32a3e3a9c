use Rattle.bottleneck_lanes.proofs.Multiples.{greater_law, free_law, last_lane_law}
use Rattle.bottleneck_lanes.proofs.Needs.{smaller_set_law, unbeaten_law, beside_law}
use Rattle.bottleneck_lanes.proofs.laws.critical_law.Goals as goal

pub returns-clause-greater : goal.returns-clause-greater
returns-clause-greater c = greater_law

pub returns-clause-free : goal.returns-clause-free
returns-clause-free c = free_law

pub returns-clause-smaller : goal.returns-clause-smaller
returns-clause-smaller c = smaller_set_law

pub returns-clause-last : goal.returns-clause-last
returns-clause-last c = last_lane_law

pub returns-clause-unbeaten : goal.returns-clause-unbeaten
returns-clause-unbeaten c = unbeaten_law c.closed_cycle_law.ensures

pub returns-clause-beside : goal.returns-clause-beside
returns-clause-beside c = beside_law c.rising_law.ensures.cycle
