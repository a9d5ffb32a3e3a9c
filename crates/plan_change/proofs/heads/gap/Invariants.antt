use Rattle.std.proofs.Common.{◌≡◌, ◌≤◌, max}
use Rattle.plan_change.specs.Schedule.{greatest, greatest_from, own_gap}
use Rattle.plan_change.proofs.heads.gap.Given as goal

abbrev pub invariant-loop-i : goal.invariant-loop-i
invariant-loop-i l = record {
  value : l.most ≡ greatest l.i (λ i. max (greatest_from l.junction i) (own_gap l.junction i));
  bound : l.most ≤ 60;
}
