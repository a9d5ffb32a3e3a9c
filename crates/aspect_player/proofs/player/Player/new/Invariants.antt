use Rattle.plan_model.specs.FittedPlan.{fitted_plan_of}
use Rattle.aspect_player.proofs.Countdown.{IsFilled}
use Rattle.aspect_player.proofs.player.Player.new.Given as goal

abbrev pub invariant-loop-i : goal.invariant-loop-i
invariant-loop-i l = IsFilled (fitted_plan_of l.plan) 0 l.i l.left
