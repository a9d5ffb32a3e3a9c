use Rattle.std.proofs.Common.{◌≡◌, ◌≤◌}
use Rattle.std.specs.Prelude.{unwrap_or}
use Rattle.conflict_matrix.specs.Matrix.{intergreen_of}
use Rattle.plan_change.specs.Schedule.{greatest}
use Rattle.plan_change.proofs.heads.greatest_wait.Given as goal

abbrev pub invariant-loop-to : goal.invariant-loop-to
invariant-loop-to l = record {
  value : l.most ≡ greatest l.to (λ j. unwrap_or (intergreen_of l.junction.conflicts l.group j) 0);
  bound : l.most ≤ 60;
}
