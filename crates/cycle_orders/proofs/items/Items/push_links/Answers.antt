use Rattle.std.proofs.Common.{◌≡◌, ◌<◌, length, ap, subst, arith}
use Rattle.conflict_matrix.specs.Conflicts.{matrix_of}
use Rattle.cycle_orders.specs.DueItems.{AreOpenBelowLink}
use Rattle.cycle_orders.proofs.DueList.{few_open, link_pushed, links_done, root_long}
use Rattle.cycle_orders.proofs.items.Items.push_links.Goals as goal

pub push-requires : goal.push-requires
push-requires c =
    let m = matrix_of c.args.conflicts.now in
    let few = c.pair_laws.ensures.few m c.args.conflicts.now.table in
    let links = ap length c.links-link-end.ensures.value in
    let twelve = c.args.conflicts.now.table.links.linkable.few in
    omega (arith, few, few_open m c.loop-link.self c.loop-link.link c.loop-link.invariant.items, links, twelve, c.loop-link-test.true)

pub loop-link-preserved : goal.loop-link-preserved
loop-link-preserved c =
    let m = matrix_of c.args.conflicts.now in
    let links = ap length c.links-link-end.ensures.value in
    let below : c.loop-link.link < length m.links = omega (arith, links, c.loop-link-test.true) in
    record {
      items = rw (c.push.ensures, c.pair_count.ensures) (link_pushed c.root_law.ensures m c.pair_laws.ensures.sum c.loop-link.self c.loop-link.link below c.loop-link.invariant.items);
      within = omega (arith, below);
    }

pub returns : goal.returns
returns c =
    let m = matrix_of c.args.conflicts.now in
    let links = ap length c.links-link-end.ensures.value in
    let last : c.loop-link.link ≡ length m.links = omega (arith, links, c.loop-link-test.false, c.loop-link.invariant.within) in
    links_done c.root_law.ensures m c.loop-link.self (root_long c.root_law.ensures c.pair_laws.ensures.sum m)
    (subst (λ n. AreOpenBelowLink m n c.loop-link.self) last c.loop-link.invariant.items)
