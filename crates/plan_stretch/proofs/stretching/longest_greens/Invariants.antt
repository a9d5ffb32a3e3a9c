use Rattle.std.proofs.Common.{◌≡◌, length}
use Rattle.plan_model.specs.FittedPlan.{junction_of, fitted_plan_of}
use Rattle.plan_stretch.specs.RoomBelow.{AreLongestGreens}
use Rattle.plan_stretch.proofs.stretching.longest_greens.Given as goal

abbrev pub invariant-loop-i : goal.invariant-loop-i
invariant-loop-i l = record {
  room : length l.greens ≡ 16;
  so_far : AreLongestGreens (junction_of l.plan) (fitted_plan_of l.plan) l.i l.greens;
}
