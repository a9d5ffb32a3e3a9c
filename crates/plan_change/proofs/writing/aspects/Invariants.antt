use Rattle.std.proofs.Common.{◌≡◌, take}
use Rattle.plan_change.specs.Changer.{row_in}
use Rattle.plan_change.proofs.writing.aspects.Given as goal

abbrev pub invariant-loop-group : goal.invariant-loop-group
invariant-loop-group l = l.row.items ≡ take l.group (row_in l.changer)
