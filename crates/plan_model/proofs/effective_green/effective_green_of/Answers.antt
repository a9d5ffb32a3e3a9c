use Rattle.std.proofs.Common.{arith}
use Rattle.plan_model.proofs.effective_green.effective_green_of.Goals as goal

pub returns-clause-within : goal.returns-clause-within
returns-clause-within c =
    omega (arith, c.effective.ensures, c.green_at.ensures.value, c.group_at.ensures.amber, c.group_at.ensures.rules.gained_in_amber)
