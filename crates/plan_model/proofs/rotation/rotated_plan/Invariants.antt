use Rattle.std.proofs.Common.{◌≡◌, ◌+◌, ◌%◌, length, take, map}
use Rattle.plan_model.specs.Plan.{plan_of}
use Rattle.plan_model.proofs.rotation.rotated_plan.Given as goal

abbrev pub invariant-loop-i : goal.invariant-loop-i
invariant-loop-i l = record {
  room : length l.starts ≡ 16;
  so_far : take l.i l.starts ≡ map (λ start. (start + l.by) % (plan_of l.plan).cycle) (take l.i (plan_of l.plan).starts);
}
