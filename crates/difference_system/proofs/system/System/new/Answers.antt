use Rattle.std.proofs.Common.{refl}
use Rattle.conflict_matrix.specs.Conflicts.{matrix_of}
use Rattle.constraint_cycles.specs.Order.{order_of}
use Rattle.difference_system.specs.System.{edges_of}
use Rattle.difference_system.proofs.IsSystem.{IsSystem-edge_weight}
use Rattle.difference_system.proofs.system.System.new.Goals as goal

pub invariant_of-result : goal.invariant_of-result
invariant_of-result c = record {
  made = c.requires.order;
  needed = c.requires.needs;
  lasting = c.requires.cycle;
  regular = IsSystem-edge_weight (matrix_of c.args.conflicts.now) (order_of c.args.order.now) c.args.needs.now c.args.cycle
      c.args.conflicts.now.table c.args.order.now.held c.requires.order c.requires.needs c.requires.cycle c.root_law.ensures c.pair_laws.ensures.number c.edge_law.ensures.apart;
}

pub returns-clause-edges : goal.returns-clause-edges
unfolding edges_of
returns-clause-edges c = refl
