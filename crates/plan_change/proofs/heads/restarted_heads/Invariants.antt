use Rattle.plan_model.specs.Plan.{plan_of}
use Rattle.plan_change.specs.Heads.{restarted_record}
use Rattle.plan_change.proofs.Filled.{IsFilled}
use Rattle.plan_change.proofs.heads.restarted_heads.Given as goal

abbrev pub invariant-loop-i : goal.invariant-loop-i
invariant-loop-i l = IsFilled (restarted_record (plan_of l.plan) l.wait l.old) l.i l.heads
