use Rattle.std.proofs.Common.{◌≡◌, ◌++◌, drop}
use Rattle.plan_model.specs.Plan.{plan_of}
use Rattle.report_text.specs.PlanLines.{group_lines}
use Rattle.report_text.proofs.plan_lines.put_groups.Given as goal

abbrev pub invariant-loop-i : goal.invariant-loop-i
invariant-loop-i l = l.text.items ++ group_lines (plan_of l.plan) l.i (drop l.i l.groups) ≡ l.fn.text.items ++ group_lines (plan_of l.plan) 0 l.groups
