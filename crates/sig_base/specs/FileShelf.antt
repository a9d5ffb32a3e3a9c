-- What contracts see of a shelf over files: its two counts.
use Rattle.std.specs.Prelude.{ℕ}

pub record FileShelfState : Type 0 where
  pub faults : ℕ
  -- how many fetches were refused for length
  pub refusals : ℕ
