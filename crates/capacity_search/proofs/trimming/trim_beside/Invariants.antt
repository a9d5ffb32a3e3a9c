use Rattle.std.proofs.Common.{◌≡◌, ◌≤◌, length, take}
use Rattle.sig_base.specs.declared.ratio.Ratio.{Ratio}
use Rattle.least_greens.specs.NeedRule.{rule_junction}
use Rattle.plan_model.specs.FittedPlan.{fitted_plan_of}
use Rattle.cycle_orders.specs.Forest.{EachTree, IsClosedBeside, visited_in}
use Rattle.capacity_search.proofs.TrimmedTrees.{IsTrimmedTree}
use Rattle.capacity_search.proofs.trimming.trim_beside.Given as goal

abbrev pub invariant-loop-number : goal.invariant-loop-number
invariant-loop-number g l = record {
  long : length l.trimmed ≡ l.number;
  no_more : visited_in l.trimmed ≤ visited_in (take l.number l.forest);
  each : (least : Ratio) → IsClosedBeside (rule_junction l.rule) least (fitted_plan_of l.plan) l.multiplier l.forest →
      EachTree (IsTrimmedTree (rule_junction l.rule) least (fitted_plan_of l.plan) l.multiplier) (rule_junction l.rule).least_cycle l.trimmed;
}
