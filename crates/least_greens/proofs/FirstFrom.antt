-- The first number that passes a test, found by trying.
use Rattle.std.proofs.Common.{ℕ, zero, suc, Bool, true, false, ◌≡◌, ◌+◌, ◌<◌, ◌≤◌, cond, inl, inr, arith, refl}
use Rattle.std.proofs.lemmas.Bool.{cases_eq}
use Rattle.least_greens.specs.NeedOf.{first_from}

-- of n numbers from k on the first that passes, and k + n where none does
pub record IsFoundFrom (test : ℕ → Bool) (k n found : ℕ) : Type 0 where
  pub least : k ≤ found
  pub most : found ≤ k + n
  pub passes : found < k + n → test found ≡ true
  pub fails : (j : ℕ) → k ≤ j → j < found → test j ≡ false

found_next : (test : ℕ → Bool) (k n rest : ℕ) (b : Bool) → test k ≡ b → IsFoundFrom test (k + 1) n rest → IsFoundFrom test k (suc n) (cond b k rest)
found_next test k n rest true is later = record { least = omega arith; most = omega arith; passes = λ _. is; fails = λ j from below. absurd (omega arith) }
found_next test k n rest false is later = record {
  least = omega (arith, later.least);
  most = omega (arith, later.most);
  passes = λ below. later.passes (omega arith);
  fails = λ j from below. elim (cases_eq j k) [
    | inl e ↦ rw e is
    | inr ne ↦ later.fails j (omega arith) below
  ];
}

pub first_is_found : (test : ℕ → Bool) (k n : ℕ) → IsFoundFrom test k n (first_from test k n)
unfolding first_from
first_is_found test k zero = record { least = omega arith; most = omega arith; passes = λ below. absurd (omega arith); fails = λ j from below. absurd (omega arith) }
first_is_found test k (suc n) = found_next test k n (first_from test (k + 1) n) (test k) refl (first_is_found test (k + 1) n)
