use Rattle.conflict_matrix.specs.Pairs.{pairs_of}
use Rattle.constraint_cycles.proofs.FirstPairs.{rooted}
use Rattle.constraint_cycles.proofs.RootMarks.{root_all}
use Rattle.constraint_cycles.proofs.laws.root_law.Goals as goal

pub returns : goal.returns
returns c = λ m.
    let root = rooted (pairs_of m) (c.pair_laws.ensures.rising m) in
    (root_all m root, root.first)
