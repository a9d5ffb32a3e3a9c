use Rattle.std.proofs.Common.{ℕ, ◌<◌, length}
use Rattle.conflict_matrix.specs.Conflicts.{matrix_of}
use Rattle.junction_model.specs.Rules.{IsPairLongEnough}
use Rattle.junction_model.proofs.rules.are_long_enough.Given as goal

abbrev pub invariant-loop-i : goal.invariant-loop-i
invariant-loop-i l = (i : ℕ) → i < l.i → (j : ℕ) → j < length l.groups → IsPairLongEnough l.groups (matrix_of l.conflicts) i j
