-- A signal plan as plain data, and when a group of it is green: made after the design by signal groups of
-- Improta and Cantarella (1984) and of Gallivan and Heydecker (1988), in whole seconds.
use Rattle.std.specs.Prelude.{ℕ, List, length, ◌≡◌, ◌+◌, ◌-◌, ◌%◌, ◌<◌, ◌≤◌, slice_index}

-- the cycle, and the start and the green of each group, all in seconds
pub record PlanView : Type 0 where
  pub cycle : ℕ
  pub starts : List ℕ
  pub greens : List ℕ

abbrev pub plan_with : ℕ → List ℕ → List ℕ → PlanView
plan_with cycle starts greens = record { cycle = cycle; starts = starts; greens = greens }

-- one start and one green for each of 2 to 16 groups
abbrev pub AreOfGroups : List ℕ → List ℕ → Type 0
AreOfGroups starts greens = (length starts ≡ length greens) × (2 ≤ length starts) × (length starts ≤ 16)

abbrev pub start_of : PlanView → ℕ → ℕ
start_of p i = slice_index p.starts i

abbrev pub green_of : PlanView → ℕ → ℕ
green_of p i = slice_index p.greens i

-- group i is green at second t, for each t from 0 on
abbrev pub GreenAt : PlanView → ℕ → ℕ → Type 0
GreenAt p i t = (t + p.cycle - start_of p i) % p.cycle < green_of p i
