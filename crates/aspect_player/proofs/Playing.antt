-- A player so many seconds on.
use Rattle.std.proofs.Common.{ℕ, ◌≡◌}
use Rattle.aspect_player.specs.Player.{junction_in, plan_in, second_of}
use Rattle.aspect_player.specs.declared.player.Player.{Player}

pub record IsPlaying (first : Player) (seconds : ℕ) (player : Player) : Type 0 where
  pub second : second_of player ≡ seconds
  pub junction : junction_in player ≡ junction_in first
  pub plan : plan_in player ≡ plan_in first
