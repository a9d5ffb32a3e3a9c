use Rattle.std.proofs.Common.{◌≢◌, length, ap, ◌∙◌, rules}
use Rattle.conflict_matrix.specs.Conflicts.{matrix_of}
use Rattle.constraint_cycles.specs.Order.{marks_of}
use Rattle.certificate_checker.specs.NodeFault.{sum_fault}
use Rattle.certificate_checker.proofs.WalkFault.{all_needs, fault_of_sum}
use Rattle.certificate_checker.proofs.node_rules.walk_fault.Goals as goal

pub walk_sum-sum-requires-clause-needs : goal.walk_sum-sum-requires-clause-needs
walk_sum-sum-requires-clause-needs c = all_needs (matrix_of c.args.basis.now.conflicts.now) c.args.basis.now.needs c.requires.basis.needs

pub returns : goal.returns
returns c =
    let several : length c.args.walk.now ≢ 1 = search rules in
    c.sum_fault.ensures ∙ ap sum_fault c.walk_sum-sum.ensures.value
    ∙ fault_of_sum (matrix_of c.args.basis.now.conflicts.now) (marks_of c.args.order.now) c.args.basis.now.needs c.args.basis.now.cycle c.args.basis.now.unfinished c.args.walk.now
    c.walk_sum-sum.ensures.walk several
