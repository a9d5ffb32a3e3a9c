-- The first number below a bound at which something holds.
use Rattle.std.specs.Prelude.{ℕ, Option, ◌<◌, MatchOption}

abbrev pub SomeBelow : (ℕ → Type 0) → ℕ → Type 0
SomeBelow P n = (k : ℕ) × (k < n) × P k

abbrev pub NoneBelow : (ℕ → Type 0) → ℕ → Type 0
NoneBelow P n = (k : ℕ) → k < n → ¬ P k

-- P holds at k, which is below n, and at no smaller number
pub record IsFirst (P : ℕ → Type 0) (n k : ℕ) : Type 0 where
  pub within : k < n
  pub holds : P k
  pub earlier : NoneBelow P k

-- the first number below n at which P holds, or none where it holds at none
abbrev pub FirstOrNone : (ℕ → Type 0) → ℕ → Option ℕ → Type 0
FirstOrNone P n answer = MatchOption answer (NoneBelow P n) (λ k. IsFirst P n k)
