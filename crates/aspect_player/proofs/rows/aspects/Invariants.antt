use Rattle.std.proofs.Common.{◌≡◌, take}
use Rattle.aspect_player.specs.Timetable.{row_at}
use Rattle.aspect_player.specs.Player.{junction_in, plan_in, second_of}
use Rattle.aspect_player.proofs.rows.aspects.Given as goal

abbrev pub invariant-loop-group : goal.invariant-loop-group
invariant-loop-group l = l.row.items ≡ take l.group (row_at (junction_in l.player) (plan_in l.player) (second_of l.player))
