use Rattle.conflict_matrix.specs.Conflicts.{matrix_of}
use Rattle.difference_system.proofs.Ends.{pair_ends, link_ends}
use Rattle.difference_system.proofs.sums.decision.ends.Goals as goal

pub returns-then-item-pairs : goal.returns-then-item-pairs
returns-then-item-pairs c = pair_ends c.pair_laws.ensures.pair (matrix_of c.args.conflicts.now) c.args.item c.pair.result c.pair.ensures

pub returns : goal.returns
returns c = link_ends (matrix_of c.args.conflicts.now) c.args.item c.pair_count-pairs.result c.links.result.now _
    c.pair_count-pairs.ensures c.links.ensures.value c.if-item-pairs.false c.requires c.links.ensures.links
