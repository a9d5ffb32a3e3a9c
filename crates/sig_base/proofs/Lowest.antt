-- Fractions in lowest terms: each value has one, and only one.
use Rattle.std.proofs.Common.{ℕ, zero, suc, ◌≡◌, ◌*◌, ◌/◌, ◌+◌, ◌-◌, ◌<◌, ◌≤◌, inl, inr, refl, sym, ap, ◌∙◌, subst, arith}
use Rattle.std.specs.Int.{IsGcd, ◌∣◌}
use Rattle.std.proofs.lemmas.Bool.{cases_lt}
use Rattle.std.proofs.lemmas.Nat.Gcd.{IsGcd-from_zero, IsGcd-from_sub, IsGcd-swap, same_from_IsGcd, dvd_antisymm}
use Rattle.std.proofs.Math.Nat.{one-dvd, pos_of_dvd_of_pos, dvd_of_mul-dvd-mul_left, dvd-mul_left, dvd-mul_right, mul-dvd-mul_left, mul-div_cancel, mul-div_cancel', mul-one}
use Rattle.sig_base.specs.Fraction.{IsLowest, IsSameFraction, over}

quotient_positive : (b g q : ℕ) → 1 ≤ b → g * q ≡ b → 1 ≤ q
quotient_positive b g zero p e = let h : g * 0 ≡ b = e in omega arith
quotient_positive b g (suc q) p e = omega arith

-- both parts divided by their greatest common divisor
pub lowest_parts : (a b g : ℕ) → 1 ≤ b → IsGcd a b g → IsLowest (a / g) (b / g)
lowest_parts a b g p h =
    let back_a : g * (a / g) ≡ a = mul-div_cancel' g h.0 in
    let back_b : g * (b / g) ≡ b = mul-div_cancel' g h.1 in
    let above : 0 < g = pos_of_dvd_of_pos h.1 p in
    record {
      positive = quotient_positive b g (b / g) p back_b;
      coprime = (
        one-dvd _,
        one-dvd _,
        λ d k m. dvd_of_mul-dvd-mul_left d above
            (rw (mul-one g) (h.2 (g * d) (rw back_a at (mul-dvd-mul_left d g k)) (rw back_b at (mul-dvd-mul_left d g m)))),
      );
    }

products : (q r g a b : ℕ) → g * q ≡ a → g * r ≡ b → q * b ≡ a * r
products q r g a b e f = rw (← e, ← f) (omega arith)

pub same_quotients : (a b g : ℕ) → IsGcd a b g → (a / g) * b ≡ a * (b / g)
same_quotients a b g h = products _ _ g a b (mul-div_cancel' g h.0) (mul-div_cancel' g h.1)

less_parts : (a b d k : ℕ) → d + b ≡ a → (d * k ≡ a * k - b * k) × (b * k ≤ a * k)
less_parts a b d k h =
    let spread : (d + b) * k ≡ d * k + b * k = omega arith in
    let whole : a * k ≡ d * k + b * k = ap (λ x. x * k) (sym h) ∙ spread in
    (omega arith, omega arith)

less_times : (a b k : ℕ) → b ≤ a → ((a - b) * k ≡ a * k - b * k) × (b * k ≤ a * k)
less_times a b k le = less_parts a b (a - b) k (omega arith)

-- two numbers have a greatest common divisor, and so have their multiples
common_divisor : (n a b k : ℕ) → a + b ≤ n → (g : ℕ) × IsGcd a b g × IsGcd (a * k) (b * k) (g * k)
common_divisor n a zero k few = (a, IsGcd-from_zero a 0 refl, IsGcd-from_zero (a * k) (0 * k) (omega arith))
common_divisor n zero (suc b) k few = (suc b, IsGcd-swap (suc b) 0 (suc b) (IsGcd-from_zero (suc b) 0 refl), IsGcd-swap (suc b * k) (0 * k) (suc b * k) (IsGcd-from_zero (suc b * k) (0 * k) (omega arith)))
common_divisor zero (suc a) (suc b) k few = absurd (omega arith)
common_divisor (suc n) (suc a) (suc b) k few = elim (cases_lt (suc a) (suc b)) [
  | inl below ↦
      let less = less_times (suc b) (suc a) k (omega arith) in
      let found = common_divisor n (suc a) (suc b - suc a) k (omega arith) in (
        found.0,
        IsGcd-swap (suc b) (suc a) found.0 (IsGcd-from_sub (suc b) (suc a) found.0 (omega arith) (IsGcd-swap (suc a) (suc b - suc a) found.0 found.1)),
        IsGcd-swap (suc b * k) (suc a * k) (found.0 * k) (IsGcd-from_sub (suc b * k) (suc a * k) (found.0 * k) less.1
            (subst (λ x. IsGcd x (suc a * k) (found.0 * k)) less.0 (IsGcd-swap (suc a * k) ((suc b - suc a) * k) (found.0 * k) found.2))),
      )
  | inr above ↦
      let less = less_times (suc a) (suc b) k above in
      let found = common_divisor n (suc a - suc b) (suc b) k (omega arith) in (
        found.0,
        IsGcd-from_sub (suc a) (suc b) found.0 above found.1,
        IsGcd-from_sub (suc a * k) (suc b * k) (found.0 * k) less.1 (subst (λ x. IsGcd x (suc b * k) (found.0 * k)) less.0 found.2),
      )
]

-- every fraction has one in lowest terms of its value
pub lowest_fraction : (a b : ℕ) → 1 ≤ b → (num : ℕ) × (den : ℕ) × IsLowest num den × IsSameFraction (over num den) (over a b)
lowest_fraction a b some =
    let found = common_divisor (a + b) a b 1 (omega arith) in
    (a / found.0, b / found.0, lowest_parts a b found.0 some found.1, same_quotients a b found.0 found.1)

-- a divisor of a product that has none in common with one factor divides the other one
divides_other : (a b k : ℕ) → IsGcd a b 1 → b ∣ a * k → b ∣ k
divides_other a b k apart divides =
    let found = common_divisor (a + b) a b k (omega arith) in
    let one : found.0 * k ≡ k = ap (λ g. g * k) (same_from_IsGcd a b found.0 1 found.1 apart) ∙ omega arith in
    subst (λ d. b ∣ d) one (found.2.2 b divides (dvd-mul_right b k))

same_factor : (a c b : ℕ) → 1 ≤ b → a * b ≡ c * b → a ≡ c
same_factor a c b some same = sym (mul-div_cancel a some) ∙ ap (λ x. x / b) same ∙ mul-div_cancel c some

-- two fractions in lowest terms of one value are the same
pub same_lowest : (a b c d : ℕ) → IsLowest a b → IsLowest c d → IsSameFraction (over a b) (over c d) → (a ≡ c) × (b ≡ d)
same_lowest a b c d h l same =
    let first : b ∣ d = divides_other a b d h.coprime (subst (λ x. b ∣ x) (sym same) (dvd-mul_left b c)) in
    let second : d ∣ b = divides_other c d b l.coprime (subst (λ x. d ∣ x) same (dvd-mul_left d a)) in
    let dens : b ≡ d = dvd_antisymm first second in
    (same_factor a c b h.positive (ap (λ x. a * x) dens ∙ same), dens)
