use Rattle.std.proofs.Common.{ℕ, ◌<◌}
use Rattle.conflict_matrix.specs.Conflicts.{matrix_of}
use Rattle.junction_model.specs.Rules.{HasPartner}
use Rattle.junction_model.proofs.rules.each_has_partner.Given as goal

abbrev pub invariant-loop-i : goal.invariant-loop-i
invariant-loop-i l = (i : ℕ) → i < l.i → HasPartner (matrix_of l.conflicts) i
