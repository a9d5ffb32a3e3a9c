-- The two groups of an item.
use Rattle.std.specs.Prelude.{ℕ, length, Some, ◌≡◌, ◌-◌, ◌<◌, ◌≤◌, ◌⊎◌, IsSomeAnd, slice_get}
use Rattle.conflict_matrix.specs.Matrix.{Matrix}
use Rattle.conflict_matrix.specs.Pairs.{pairs_of}

-- the lower and the higher group of its pair, or its link's leader and follower
abbrev pub AreEndsOf : Matrix → ℕ → ℕ × ℕ → Type 0
AreEndsOf m item ends =
    (slice_get (pairs_of m) item ≡ Some ends)
    ⊎ ((length (pairs_of m) ≤ item) × IsSomeAnd (slice_get m.links (item - length (pairs_of m))) (λ link. (link.leader ≡ ends.0) × (link.follower ≡ ends.1)))

pub record AreEndsAmong (m : Matrix) (item : ℕ) (ends : ℕ × ℕ) : Type 0 where
  pub of_item : AreEndsOf m item ends
  pub first : ends.0 < m.groups
  pub second : ends.1 < m.groups
