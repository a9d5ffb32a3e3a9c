-- A changer so many seconds on, with so many changes made.
use Rattle.std.proofs.Common.{ℕ, List, take, ◌≡◌}
use Rattle.plan_change.specs.declared.change_list.PlannedChange.{PlannedChange}
use Rattle.plan_change.specs.declared.changer.Changer.{Changer}
use Rattle.plan_change.specs.Changer.{junction_in, first_in, requests_in, second_in}
use Rattle.plan_change.specs.Planned.{requests_planned, IsDueFrom}

pub record IsPlaying (first : Changer) (changes : List PlannedChange) (seconds made : ℕ) (changer : Changer) : Type 0 where
  pub second : second_in changer ≡ seconds
  pub junction : junction_in changer ≡ junction_in first
  pub plan : first_in changer ≡ first_in first
  pub requests : requests_in changer ≡ requests_planned (take made changes)
  pub due : IsDueFrom changes made seconds
