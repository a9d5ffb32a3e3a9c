-- What contracts see of a sink over standard output: its count.
use Rattle.std.specs.Prelude.{ℕ}

pub record StdSinkState : Type 0 where
  pub faults : ℕ
