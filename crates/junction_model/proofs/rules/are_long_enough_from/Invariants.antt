use Rattle.std.proofs.Common.{ℕ, ◌<◌}
use Rattle.conflict_matrix.specs.Conflicts.{matrix_of}
use Rattle.junction_model.specs.Rules.{IsPairLongEnough}
use Rattle.junction_model.proofs.rules.are_long_enough_from.Given as goal

abbrev pub invariant-loop-j : goal.invariant-loop-j
invariant-loop-j l = (j : ℕ) → j < l.j → IsPairLongEnough l.groups (matrix_of l.conflicts) l.i j
