use Rattle.plan_model.specs.Plan.{plan_of}
use Rattle.plan_change.specs.Heads.{first_record}
use Rattle.plan_change.proofs.Filled.{IsFilled}
use Rattle.plan_change.proofs.heads.first_heads.Given as goal

abbrev pub invariant-loop-i : goal.invariant-loop-i
invariant-loop-i l = IsFilled (first_record l.junction (plan_of l.plan)) l.i l.heads
