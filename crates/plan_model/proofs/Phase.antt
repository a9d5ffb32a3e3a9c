-- Seconds since the last start, round the cycle.
use Rattle.std.proofs.Common.{ℕ, ◌≡◌, ◌+◌, ◌-◌, ◌%◌, ◌<◌, ◌≤◌, ◌⊎◌, inl, inr, sym, ap, ◌∙◌, arith}
use Rattle.std.proofs.Math.Nat.{mod-lt, mod_self, mod-eq_of_lt, mod-add-mod, add-mod-mod, add-mod_right, add-mod}
use Rattle.std.proofs.lemmas.Bool.{cases_lt}

-- seconds from the last start at s to t
abbrev pub phase : ℕ → ℕ → ℕ → ℕ
phase c s t = (t + c - s) % c

pub phase_below : (c s t : ℕ) → 1 ≤ c → phase c s t < c
phase_below c s t h = mod-lt (t + c - s) h

pub phase_start : (c s : ℕ) → phase c s s ≡ 0
phase_start c s = let e : s + c - s ≡ c = omega arith in rw e (mod_self c)

pub phase_on : (c s t d : ℕ) → s ≤ c → phase c s (t + d) ≡ (phase c s t + d) % c
phase_on c s t d h =
    let e : t + d + c - s ≡ (t + c - s) + d = omega arith in rw e (sym (mod-add-mod (t + c - s) c d))

pub phase_round : (c s t : ℕ) → s ≤ c → phase c s (t % c) ≡ phase c s t
phase_round c s t h =
    let e : t % c + c - s ≡ t % c + (c - s) = omega arith in
    let f : t + c - s ≡ t + (c - s) = omega arith in
    rw (e, f) (mod-add-mod t c (c - s))

-- by the start of another
pub phase_by : (c s r t : ℕ) → s ≤ c → r ≤ c → phase c s t ≡ (phase c r t + phase c s r) % c
phase_by c s r t p q =
    let e : (t + c - s) + c ≡ (t + c - r) + (r + c - s) = omega arith in
    sym (add-mod_right (t + c - s) c) ∙ ap (λ n. n % c) e ∙ add-mod (t + c - r) (r + c - s) c

pub phase_at_gap : (c s r : ℕ) → s ≤ c → r ≤ c → phase c r (s + phase c s r) ≡ 0
phase_at_gap c s r p q =
    let e : phase c s r + phase c r s ≡ phase c r s + phase c s r = omega arith in
    phase_on c r s (phase c s r) q ∙ ap (λ n. n % c) (sym e) ∙ sym (phase_by c r s r q p) ∙ phase_start c r

-- a number below two cycles, once round
abbrev pub IsOnce : ℕ → ℕ → ℕ → Type 0
IsOnce c x y = ((x < c) × (y ≡ x)) ⊎ ((c ≤ x) × (y + c ≡ x))

pub once : (c x : ℕ) → x < c + c → IsOnce c x (x % c)
once c x h = elim (cases_lt x c) [
  | inl w ↦ inl (w, mod-eq_of_lt w)
  | inr w ↦
      let e : x ≡ (x - c) + c = omega arith in
      let less : x - c < c = omega arith in
      let f : x % c ≡ x - c = ap (λ n. n % c) e ∙ add-mod_right (x - c) c ∙ mod-eq_of_lt less in
      inr (w, omega arith)
]

both_gaps : (c s r x y : ℕ) → s < c → r < c → IsOnce c (r + c - s) x → IsOnce c (s + c - r) y → x + y ≤ c
both_gaps c s r x y p q f g = grind arith

pub gaps_sum : (c s r : ℕ) → s < c → r < c → phase c s r + phase c r s ≤ c
gaps_sum c s r p q = both_gaps c s r _ _ p q (once c (r + c - s) (omega arith)) (once c (s + c - r) (omega arith))

rotated_gap : (c s r b x y m n : ℕ) → s < c → r < c → b < c → IsOnce c (s + b) x → IsOnce c (r + b) y →
    IsOnce c (y + c - x) m → IsOnce c (r + c - s) n → m ≡ n
rotated_gap c s r b x y m n p q k hx hy hm hn = grind arith

pub phase_rotated : (c s r b : ℕ) → s < c → r < c → phase c ((s + b) % c) ((r + b) % c) ≡ phase c s r
phase_rotated c s r b p q =
    let some : 1 ≤ c = omega arith in
    let least : b % c < c = mod-lt b some in
    let es : (s + b % c) % c ≡ (s + b) % c = add-mod-mod s b c in
    let er : (r + b % c) % c ≡ (r + b) % c = add-mod-mod r b c in
    let less_s : (s + b % c) % c < c = mod-lt (s + b % c) some in
    let less_r : (r + b % c) % c < c = mod-lt (r + b % c) some in
    rw (← es, ← er) (rotated_gap c s r (b % c) _ _ _ _ p q least (once c (s + b % c) (omega arith)) (once c (r + b % c) (omega arith))
    (once c ((r + b % c) % c + c - (s + b % c) % c) (omega arith)) (once c (r + c - s) (omega arith)))
