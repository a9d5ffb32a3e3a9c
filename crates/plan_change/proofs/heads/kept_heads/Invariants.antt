use Rattle.plan_model.specs.Plan.{plan_of}
use Rattle.plan_change.specs.Heads.{kept_record}
use Rattle.plan_change.proofs.Filled.{IsFilled}
use Rattle.plan_change.proofs.heads.kept_heads.Given as goal

abbrev pub invariant-loop-i : goal.invariant-loop-i
invariant-loop-i l = IsFilled (kept_record l.junction (plan_of l.plan) l.old) l.i l.heads
