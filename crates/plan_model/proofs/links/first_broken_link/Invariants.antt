use Rattle.sig_base.specs.First.{NoneBelow}
use Rattle.plan_model.specs.Plan.{plan_of}
use Rattle.plan_model.specs.FirstFault.{IsLinkBroken}
use Rattle.plan_model.proofs.links.first_broken_link.Given as goal

abbrev pub invariant-loop-k : goal.invariant-loop-k
invariant-loop-k l = NoneBelow (IsLinkBroken l.junction (plan_of l.plan)) l.k
