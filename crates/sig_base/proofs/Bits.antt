-- A set as a number, by its bits.
use Rattle.std.proofs.Common.{ℕ, ◌≡◌, sym, ◌∙◌, IsBitSet}
use Rattle.std.specs.Int.{bit_at}
use Rattle.std.proofs.lemmas.Nat.{bit_set_by_shift}
use Rattle.std.proofs.lemmas.Nat.Bits.{shr_and_one}

pub one_of_set : (n k : ℕ) → IsBitSet n k → bit_at n k ≡ 1
one_of_set n k set = sym (shr_and_one n k) ∙ (bit_set_by_shift n k).1 set

pub set_of_one : (n k : ℕ) → bit_at n k ≡ 1 → IsBitSet n k
set_of_one n k one = (bit_set_by_shift n k).0 (shr_and_one n k ∙ one)
