use Rattle.std.proofs.Common.{inl, inr, refl}
use Rattle.conflict_matrix.specs.Conflicts.{matrix_of}
use Rattle.constraint_cycles.specs.Order.{marks_of}
use Rattle.difference_system.proofs.Ends.{end_edges}
use Rattle.difference_system.proofs.Rows.{small_kept, weight_small}
use Rattle.difference_system.proofs.sums.decision.decision_edges.Goals as goal

pub seconds-requires-clause-there : goal.seconds-requires-clause-there
seconds-requires-clause-there c =
    rw (c.new-system.ensures.edges, c.requires.next) (end_edges c.pair_laws.ensures.pair (matrix_of c.args.conflicts.now) c.args.conflicts.now.table c.args.item c.ends-from.result.0 c.ends-from.result.1 c.ends-from.ensures
    c.args.mark c.requires.decides c.args.needs.now c.args.cycle c.edge_law.ensures.asked c.edge_law.ensures.greatest c.decided_law.ensures.asked c.decided_law.ensures.others (marks_of c.args.order.now) c.requires.was_open
    c.ends-from.result.0 c.ends-from.result.1 c.ends-from.ensures.first c.ends-from.ensures.second (inl (refl, refl)))

pub seconds-requires-2-clause-there : goal.seconds-requires-2-clause-there
seconds-requires-2-clause-there c =
    rw (c.new-system.ensures.edges, c.requires.next) (end_edges c.pair_laws.ensures.pair (matrix_of c.args.conflicts.now) c.args.conflicts.now.table c.args.item c.ends-from.result.0 c.ends-from.result.1 c.ends-from.ensures
    c.args.mark c.requires.decides c.args.needs.now c.args.cycle c.edge_law.ensures.asked c.edge_law.ensures.greatest c.decided_law.ensures.asked c.decided_law.ensures.others (marks_of c.args.order.now) c.requires.was_open
    c.ends-from.result.1 c.ends-from.result.0 c.ends-from.ensures.second c.ends-from.ensures.first (inr (refl, refl)))

pub returns : goal.returns
returns c =
    let forth = small_kept c.seconds.result (weight_small _ c.seconds.ensures.weight) in
    let back = small_kept c.seconds-2.result (weight_small _ c.seconds-2.ensures.weight) in
    rw (forth, back) (record {
      ends = c.ends-from.ensures;
      among = record { from = c.ends-from.ensures.first; to = c.ends-from.ensures.second; forth = c.seconds.ensures.weight; back = c.seconds-2.ensures.weight };
      forth = rw c.new-system.ensures.edges at c.seconds.ensures.value;
      back = rw c.new-system.ensures.edges at c.seconds-2.ensures.value;
    })
