use Rattle.std.proofs.Common.{◌≡◌}
use Rattle.plan_change.specs.Changer.{junction_in}
use Rattle.conformance.proofs.of_plan_change.goes_on.Given as goal

abbrev pub invariant-loop-second : goal.invariant-loop-second
invariant-loop-second g l = junction_in l.changer ≡ junction_in l.fn.changer
