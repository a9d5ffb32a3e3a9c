use Rattle.std.proofs.Common.{◌≡◌, ◌+◌, IfSome, drop, length}
use Rattle.conflict_matrix.specs.Conflicts.{matrix_of, pairs_of}
use Rattle.constraint_cycles.specs.Order.{marks_of}
use Rattle.constraint_cycles.specs.Edge.{IsWeight, group_weight, links_weight, link_marks, greater}
use Rattle.constraint_cycles.proofs.edge.weight.Given as goal

abbrev pub invariant-loop-k : goal.invariant-loop-k
invariant-loop-k l =
    let m = matrix_of l.conflicts in
    let marks = marks_of l.order in record {
      range : IfSome l.most IsWeight;
      so_far : greater (group_weight m marks l.needs l.cycle l.u l.v) (links_weight (link_marks m marks) m.links l.cycle l.u l.v)
          ≡ greater l.most (links_weight (drop (length (pairs_of m) + l.k) marks) (drop l.k m.links) l.cycle l.u l.v);
    }
