-- Sets as numbers, by their bits.
use Rattle.std.proofs.Common.{ℕ, ◌≡◌, ◌^◌, ◌↔◌, ◌⊎◌, inl, inr, sym, ◌∙◌, subst, bit_or, IsBitSet, arith}
use Rattle.std.specs.Int.{bit_at}
use Rattle.std.proofs.lemmas.Bool.{cases_eq}
use Rattle.std.proofs.lemmas.Nat.Bits.{bit_at-lt, bit_at-zero, bit_at_or, bit_at-pow_same, bit_at-pow_other, same_from_bits}
use Rattle.sig_base.proofs.Bits.{one_of_set, set_of_one}

pub none_set : (k : ℕ) → IsBitSet 0 k → ⊥
none_set k set = let one : bit_at 0 k ≡ 1 = one_of_set 0 k set in omega (arith, one, bit_at-zero k)

-- bit n more
pub set_with : (set n k : ℕ) → IsBitSet (bit_or set (2 ^ n)) k ↔ (IsBitSet set k ⊎ (k ≡ n))
set_with set n k = (
  λ is. elim (cases_eq k n) [
    | inl same ↦ inr same
    | inr other ↦ inl (set_of_one set k (omega (arith, one_of_set _ k is, bit_at_or set (2 ^ n) k, bit_at-pow_other n k other)))
  ],
  λ either. elim either [
    | inl is ↦ set_of_one _ k (omega (arith, bit_at_or set (2 ^ n) k, one_of_set set k is, bit_at-lt (2 ^ n) k))
    | inr same ↦ set_of_one _ k (subst (λ k. bit_at (bit_or set (2 ^ n)) k ≡ 1) (sym same)
        (omega (arith, bit_at_or set (2 ^ n) n, bit_at-pow_same n, bit_at-lt set n)))
  ],
)

same_bit : (a b k : ℕ) → IsBitSet a k ↔ IsBitSet b k → bit_at a k ≡ bit_at b k
same_bit a b k h = elim (cases_eq (bit_at a k) 1) [
  | inl one ↦ one ∙ sym (one_of_set b k (h.0 (set_of_one a k one)))
  | inr not ↦ elim (cases_eq (bit_at b k) 1) [
    | inl one ↦ absurd (not (one_of_set a k (h.1 (set_of_one b k one))))
    | inr neither ↦ omega (arith, not, neither, bit_at-lt a k, bit_at-lt b k)
  ]
]

pub same_set : (a b : ℕ) → ((k : ℕ) → IsBitSet a k ↔ IsBitSet b k) → a ≡ b
same_set a b h = same_from_bits a b (λ k. same_bit a b k (h k))
