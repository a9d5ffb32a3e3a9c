-- The ranges of times, in seconds.
use Rattle.std.specs.Prelude.{ℕ, ◌≤◌}
use Rattle.sig_base.specs.declared.group_times.GroupTimes.{GroupTimes}

pub record AreTimes (times : GroupTimes) : Type 0 where
  pub shown : 1 ≤ times.min_green
  pub min_green : times.min_green ≤ 120
  pub amber : times.amber ≤ 30
  pub red_amber : times.red_amber ≤ 10
  pub lost_and_gained : (times.start_lost ≤ 10) × (times.end_gain ≤ 30)
  pub max_green : (1 ≤ times.max_green) × (times.max_green ≤ 300)

pub record IsCycle (cycle : ℕ) : Type 0 where
  pub shortest : 1 ≤ cycle
  pub longest : cycle ≤ 300

-- the green that a group needs, and 301 where none is enough
pub record IsGreenNeed (need : ℕ) : Type 0 where
  pub some : 1 ≤ need
  pub most : need ≤ 301
