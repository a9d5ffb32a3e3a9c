-- The first number at which something holds is one.
use Rattle.std.proofs.Common.{ℕ, ◌≡◌, inl, inr}
use Rattle.std.proofs.lemmas.Bool.{cases_order}
use Rattle.sig_base.specs.First.{IsFirst}

pub one_first : (P : ℕ → Type 0) (n k m : ℕ) → IsFirst P n k → IsFirst P n m → k ≡ m
one_first P n k m one other = elim (cases_order k m) [
  | inl same ↦ same
  | inr apart ↦ elim apart [
    | inl below ↦ absurd (other.earlier k below one.holds)
    | inr above ↦ absurd (one.earlier m above other.holds)
  ]
]
