use Rattle.std.proofs.Common.{arith, subst, sym}
use Rattle.conflict_matrix.specs.Conflicts.{matrix_of}
use Rattle.constraint_cycles.specs.Edge.{edge_weight}
use Rattle.constraint_cycles.specs.Order.{edges_for}
use Rattle.difference_system.specs.Sums.{sum_of}
use Rattle.difference_system.proofs.Spokes.{IsStar, spokes_close, root_star, root_sums}
use Rattle.difference_system.proofs.sums.root.root_sums.Goals as goal

pub returns-in-Some : goal.returns-in-Some
returns-in-Some c =
    spokes_close (matrix_of c.args.conflicts.now).groups (edges_for c.args.conflicts.now c.args.order.now c.args.needs.now c.args.cycle) c.gather-spokes.result
    (rw (c.new.ensures.edges, c.new.ensures.groups) at c.gather-spokes.ensures) c.in-Some.field-0 (rw c.groups-groups.ensures at c.in-Some.ensures)

pub returns : goal.returns
returns c =
    let star = subst (λ marks. IsStar (matrix_of c.args.conflicts.now).groups (edge_weight (matrix_of c.args.conflicts.now) marks c.args.needs.now c.args.cycle)) (sym c.requires.root)
    (root_star (matrix_of c.args.conflicts.now) c.args.needs.now c.args.cycle c.root_law.ensures c.pair_laws.ensures.sum c.edge_law.ensures.asked c.edge_law.ensures.apart c.args.conflicts.now.table) in
    root_sums (matrix_of c.args.conflicts.now).groups (edges_for c.args.conflicts.now c.args.order.now c.args.needs.now c.args.cycle) c.gather-spokes.result
    (rw (c.new.ensures.edges, c.new.ensures.groups) at c.gather-spokes.ensures) star (sum_of c.of_rows.result)
    (λ u v in_u in_v. rw c.of_rows.ensures (c.loop-from.invariant.before u v (omega (arith, c.groups-groups.ensures, c.loop-from-test.false)) (omega (arith, c.groups-groups.ensures))))
    (rw c.groups-groups.ensures at c.in_default.ensures)
