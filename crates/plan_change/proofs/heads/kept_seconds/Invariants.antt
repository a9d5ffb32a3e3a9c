use Rattle.std.proofs.Common.{◌≡◌, ◌≤◌, max}
use Rattle.plan_change.specs.Heads.{green_left}
use Rattle.plan_change.specs.Schedule.{greatest}
use Rattle.plan_change.proofs.heads.kept_seconds.Given as goal

abbrev pub invariant-loop-i : goal.invariant-loop-i
invariant-loop-i l = record {
  value : l.left ≡ max 1 (greatest l.i (green_left l.junction l.heads));
  bound : l.left ≤ 400;
}
