use Rattle.std.proofs.Common.{◌≡◌, subst, arith}
use Rattle.conflict_matrix.specs.Conflicts.{matrix_of}
use Rattle.cycle_orders.specs.DueItems.{AreFreePairsBelow}
use Rattle.cycle_orders.proofs.DueList.{none_yet, links_begun}
use Rattle.cycle_orders.proofs.items.Items.of.Goals as goal

pub loop-group-init : goal.loop-group-init
loop-group-init c = record {
  pairs = rw c.none-items.ensures (none_yet c.pair_laws.ensures.pair (matrix_of c.args.conflicts.now));
  some = omega arith;
  within = omega (arith, c.args.conflicts.now.table.few.0);
}

pub push_links-requires : goal.push_links-requires
push_links-requires c =
    let m = matrix_of c.args.conflicts.now in
    let last : c.loop-group.group ≡ m.groups = omega (arith, c.groups-group-end.ensures, c.loop-group-test.false, c.loop-group.invariant.within) in
    links_begun c.root_law.ensures m c.pair_laws.ensures.pair c.loop-group.items
    (subst (λ n. AreFreePairsBelow m (1, n) c.loop-group.items) last c.loop-group.invariant.pairs)
