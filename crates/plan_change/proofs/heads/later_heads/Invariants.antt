use Rattle.plan_model.specs.Plan.{plan_of}
use Rattle.plan_change.specs.Heads.{later_record}
use Rattle.plan_change.proofs.Filled.{IsFilled}
use Rattle.plan_change.proofs.heads.later_heads.Given as goal

abbrev pub invariant-loop-i : goal.invariant-loop-i
invariant-loop-i l = IsFilled (later_record l.junction (plan_of l.plan) l.old) l.i l.heads
