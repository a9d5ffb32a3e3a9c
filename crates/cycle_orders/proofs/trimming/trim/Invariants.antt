use Rattle.std.proofs.Common.{◌-◌, length}
use Rattle.least_greens.specs.NeedRule.{rule_junction, rule_lanes}
use Rattle.cycle_orders.specs.Search.{search_of}
use Rattle.cycle_orders.specs.Trimming.{IsTrimming}
use Rattle.cycle_orders.specs.declared.answer.Mode.TheVariants.{First}
use Rattle.cycle_orders.proofs.trimming.trim.Given as goal

abbrev pub invariant-loop-next : goal.invariant-loop-next
invariant-loop-next g l = IsTrimming (search_of (rule_junction l.rule) (rule_lanes l.rule) l.fn.target l.fn.cycle First) l.nodes l.place l.next l.trimmed

abbrev pub decreases-loop-next : goal.decreases-loop-next
decreases-loop-next g l = length l.nodes - l.next
