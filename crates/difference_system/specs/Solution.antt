-- What solving an order gives: the least starts that meet it, or a walk that closes it.
use Rattle.std.specs.Prelude.{ℕ, List, [], ◌∷◌, length, ◌≡◌, ◌<◌, ◌≤◌, ◌==◌, ◌-◌, ⊤, All, drop, replicate, slice_index}
use Rattle.std.specs.List.{IsDistinct}
use Rattle.difference_system.specs.declared.solved.Solved.{Solved}
use Rattle.difference_system.specs.declared.solved.Solved.TheVariants.{Starts, Walk}

-- group 0 starts at second 0, and what is asked of all starts is met
pub record MeetsFromZero (asked : List ℕ → Type 0) (starts : List ℕ) : Type 0 where
  pub first : slice_index starts 0 ≡ 0
  pub meets : asked starts

-- some starts do so
abbrev pub IsSolvable : (List ℕ → Type 0) → Type 0
IsSolvable asked = (starts : List ℕ) × MeetsFromZero asked starts

-- the starts do so, and no others that do have a smaller one
pub record AreLeastStarts (asked : List ℕ → Type 0) (starts : List ℕ) : Type 0 where
  pub solution : MeetsFromZero asked starts
  pub least : (other : List ℕ) → MeetsFromZero asked other → (g : ℕ) → slice_index starts g ≤ slice_index other g

-- no two lists of as many starts are least
abbrev pub OneLeastLaw : (List ℕ → Type 0) → Type 0
OneLeastLaw asked = (starts other : List ℕ) → AreLeastStarts asked starts → AreLeastStarts asked other →
    length starts ≡ length other → starts ≡ other

-- one start for each of 16 groups: below the cycle, and 0 where there is no such group
pub record AreStartsWithin (groups cycle : ℕ) (starts : List ℕ) : Type 0 where
  pub each : length starts ≡ 16
  pub below : All (λ start. start < cycle) starts
  pub unused : drop groups starts ≡ replicate (16 - groups) 0

-- the walk closes, passes no group twice, and begins with its lowest group
pub record IsClosingCircuit (closing : List ℕ → Type 0) (walk : List ℕ) : Type 0 where
  pub closes : closing walk
  pub once : IsDistinct (λ g h. g == h) walk
  pub lowest : All (λ g. slice_index walk 0 ≤ g) walk

-- the answer is the walk of this group alone
abbrev pub IsWalkOf : Solved → ℕ → Type 0
IsWalkOf (Starts starts) g = ⊥
IsWalkOf (Walk walk) g = walk ≡ g ∷ []

abbrev pub IsStarts : Solved → Type 0
IsStarts (Starts starts) = ⊤
IsStarts (Walk walk) = ⊥

abbrev pub IfStarts : Solved → (List ℕ → Type 0) → Type 0
IfStarts (Starts starts) P = P starts
IfStarts (Walk walk) P = ⊤

abbrev pub IfWalk : Solved → (List ℕ → Type 0) → Type 0
IfWalk (Starts starts) P = ⊤
IfWalk (Walk walk) P = P walk
