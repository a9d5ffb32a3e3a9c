use Rattle.std.proofs.Common.{ℕ, ◌≡◌, ◌<◌, map, get_or, length}
use Rattle.conflict_matrix.specs.Conflicts.{matrix_of}
use Rattle.difference_system.specs.Level.{IsLevel, decision_of}
use Rattle.difference_system.specs.declared.level.Level.{Level}
use Rattle.difference_system.proofs.level.renew.Given as goal

abbrev pub invariant-loop-place : goal.invariant-loop-place
invariant-loop-place l = record {
  long : length l.levels ≡ length l.fn.levels;
  decisions : map decision_of l.levels ≡ map decision_of l.fn.levels;
  each : (k : ℕ) (d : Level) → k < l.place → IsLevel (matrix_of l.conflicts) l.needs l.cycle (get_or l.levels k d);
}
