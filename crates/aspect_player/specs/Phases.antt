-- The aspect by the seconds to the next start.
use Rattle.std.specs.Prelude.{ℕ, ◌+◌, if◌then◌else◌, nat_lt, nat_le}
use Rattle.sig_base.specs.declared.group_times.GroupTimes.{GroupTimes}
use Rattle.aspect_player.specs.declared.aspect.Aspect.{Aspect}
use Rattle.aspect_player.specs.declared.aspect.Aspect.TheVariants.{Red, RedAmber, Green, Amber}

abbrev pub aspect_by : ℕ → ℕ → ℕ → GroupTimes → Aspect
aspect_by left cycle green times =
    (if nat_lt cycle (left + green) then Green
    else if nat_lt cycle (left + green + times.amber) then Amber
    else if nat_le left times.red_amber then RedAmber
    else Red)
