use Rattle.sig_base.specs.First.{NoneBelow}
use Rattle.plan_model.specs.Plan.{plan_of}
use Rattle.plan_model.specs.FirstFault.{GroupClashes}
use Rattle.plan_model.proofs.clash.first_clash.Given as goal

abbrev pub invariant-loop-i : goal.invariant-loop-i
invariant-loop-i l = NoneBelow (GroupClashes l.junction (plan_of l.plan)) l.i
