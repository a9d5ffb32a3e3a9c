use Rattle.std.proofs.Common.{ℕ, ◌≡◌, ◌<◌, length, slice_index}
use Rattle.least_greens.specs.NeedOf.{need_of}
use Rattle.least_greens.specs.NeedRule.{rule_junction, rule_lanes}
use Rattle.cycle_orders.proofs.needs.needs.Given as goal

abbrev pub invariant-loop-group : goal.invariant-loop-group
invariant-loop-group g l = record {
  each : (k : ℕ) → k < l.group → slice_index l.needs k ≡ need_of (rule_junction l.rule) (rule_lanes l.rule) l.target l.cycle k;
  long : length l.needs ≡ 16;
}
