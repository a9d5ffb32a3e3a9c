use Rattle.sig_base.specs.First.{NoneBelow}
use Rattle.conflict_matrix.specs.Conflicts.{matrix_of}
use Rattle.constraint_cycles.specs.Closing.{IsUnserved}
use Rattle.difference_system.proofs.solution.first_unserved.Given as goal

abbrev pub invariant-loop-group : goal.invariant-loop-group
invariant-loop-group l = NoneBelow (IsUnserved (matrix_of l.conflicts) l.needs) l.group
