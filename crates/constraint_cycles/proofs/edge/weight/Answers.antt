use Rattle.std.proofs.Common.{length, ◌<◌, ap, get_or, List}
use Rattle.conflict_matrix.specs.declared.link.Link.{Link}
use Rattle.conflict_matrix.specs.Conflicts.{matrix_of, pairs_of}
use Rattle.constraint_cycles.specs.Order.{marks_of}
use Rattle.constraint_cycles.proofs.Greater.{links_more}
use Rattle.constraint_cycles.proofs.edge.weight.Goals as goal

pub loop-k-preserved : goal.loop-k-preserved
loop-k-preserved c =
    let m = matrix_of c.args.conflicts.now in
    let below : c.loop-k.k < length m.links = rw (← c.links-links.ensures.value) c.loop-k-test.true in
    record {
      range = c.greater-most.ensures.range;
      so_far = rw (c.greater-most.ensures.value, c.linked_weight-asked.ensures.value)
          (links_more (marks_of c.args.order.now) m.links c.args.cycle c.args.u c.args.v (length (pairs_of m)) c.loop-k.k _ _ _ _ _
          (rw c.pair_count-pairs.ensures at c.mark.ensures) below (ap (λ (links : List Link). get_or links c.loop-k.k (record { leader = 0; follower = 0; after = 0 })) c.links-links.ensures.value) c.loop-k.invariant.so_far);
    }
