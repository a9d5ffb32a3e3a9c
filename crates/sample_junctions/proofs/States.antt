-- States one after another.
use Rattle.std.proofs.Common.{ℕ, zero, suc, ◌≡◌, ◌+◌, ◌*◌, refl, ap, ◌∙◌, arith}
use Rattle.sample_junctions.specs.Draws.{next_state, state_after}

pub state_more : (x k : ℕ) → state_after x (k + 1) ≡ next_state (state_after x k)
state_more x k = let e : k + 1 ≡ suc k = omega arith in rw e refl

pub state_two_more : (x k : ℕ) → state_after x (2 * (k + 1)) ≡ next_state (next_state (state_after x (2 * k)))
state_two_more x k = let e : 2 * (k + 1) ≡ suc (suc (2 * k)) = omega arith in rw e refl

-- so many draws, and then so many more
pub state_after_both : (x a b : ℕ) → state_after (state_after x a) b ≡ state_after x (a + b)
state_after_both x a zero = let e : a + 0 ≡ a = omega arith in rw e refl
state_after_both x a (suc b) = let e : a + suc b ≡ suc (a + b) = omega arith in rw e (ap next_state (state_after_both x a b))

-- the first draw, those of the groups, and those of the lanes
pub state_after_lanes : (x n : ℕ) → state_after (state_after x (1 + n)) (4 * n) ≡ state_after x (1 + 5 * n)
state_after_lanes x n = state_after_both x (1 + n) (4 * n) ∙ ap (state_after x) (omega arith)
