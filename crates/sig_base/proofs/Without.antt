-- What is in a set of lanes, and in the set without one of them.
use Rattle.std.proofs.Common.{ℕ, ◌≡◌, ◌≢◌, ◌<◌, ◌^◌, ◌⊎◌, ◌∙◌, inl, inr, subst, arith}
use Rattle.std.specs.Prelude.{bit_and}
use Rattle.std.specs.Int.{bit_at, bit_not, w32}
use Rattle.std.proofs.lemmas.Bool.{cases_eq}
use Rattle.std.proofs.lemmas.Nat.{one_shl}
use Rattle.std.proofs.lemmas.Nat.Bits.{bit_at-lt, bit_at_and, bit_at_clear_same, bit_at_clear_other}
use Rattle.sig_base.specs.LaneSet.{IsIn, without}
use Rattle.sig_base.specs.declared.lane_set.LaneSet.{LaneSet}
use Rattle.sig_base.proofs.Bits.{one_of_set, set_of_one}

-- each number is in a set or not
pub decide_in : (lanes : LaneSet) (k : ℕ) → IsIn lanes k ⊎ (¬ IsIn lanes k)
decide_in lanes k = elim (cases_eq (bit_at lanes.bits k) 1) [
  | inl one ↦ inl (set_of_one lanes.bits k one)
  | inr other ↦ inr (λ is. other (one_of_set lanes.bits k is))
]

bit_gone : (lanes : LaneSet) (k : ℕ) → k < 32 → bit_at (without lanes k).bits k ≡ 0
bit_gone lanes k within = subst (λ b. bit_at (bit_and lanes.bits (bit_not w32 b)) k ≡ 0) (one_shl k 32 within)
    (bit_at_clear_same w32 lanes.bits k within)

bit_stays : (lanes : LaneSet) (k j : ℕ) → k < 32 → j < 32 → j ≢ k → bit_at (without lanes k).bits j ≡ bit_at lanes.bits j
bit_stays lanes k j within small other =
    subst (λ b. bit_at (bit_and lanes.bits (bit_not w32 b)) j ≡ bit_at lanes.bits j) (one_shl k 32 within)
    (bit_at_clear_other w32 lanes.bits k within j small other)

-- what is in the set without a lane
pub gone : (lanes : LaneSet) (k : ℕ) → k < 32 → ¬ IsIn (without lanes k) k
gone lanes k within is =
    let one = one_of_set (without lanes k).bits k is in omega (arith, one, bit_gone lanes k within)

pub was_in : (lanes : LaneSet) (k j : ℕ) → IsIn (without lanes k) j → IsIn lanes j
was_in lanes k j is =
    let one = one_of_set (without lanes k).bits j is in
    let both = bit_at_and lanes.bits (bit_not w32 (2 ^ k)) j in
    set_of_one lanes.bits j (omega (arith, one, both, bit_at-lt lanes.bits j, bit_at-lt (bit_not w32 (2 ^ k)) j))

pub other_than : (lanes : LaneSet) (k j : ℕ) → k < 32 → IsIn (without lanes k) j → j ≢ k
other_than lanes k j within is same = gone lanes k within (subst (λ i. IsIn (without lanes k) i) same is)

pub still_in : (lanes : LaneSet) (k j : ℕ) → k < 32 → j < 32 → IsIn lanes j → j ≢ k → IsIn (without lanes k) j
still_in lanes k j within small is other =
    set_of_one (without lanes k).bits j (bit_stays lanes k j within small other ∙ one_of_set lanes.bits j is)
