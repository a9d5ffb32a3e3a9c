use Rattle.plan_model.specs.FittedPlan.{junction_of, fitted_plan_of}
use Rattle.plan_model.specs.Fits.{group_count}
use Rattle.aspect_player.proofs.Countdown.{IsTicking}
use Rattle.aspect_player.proofs.player.Player.tick.Given as goal

abbrev pub invariant-loop-i : goal.invariant-loop-i
invariant-loop-i l = IsTicking (fitted_plan_of l.self.plan.now) (group_count (junction_of l.self.plan.now)) l.self.second l.i l.left
