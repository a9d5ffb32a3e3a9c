-- The parts of a fraction divided by the greatest number that divides both.
use Rattle.std.proofs.Common.{ℕ, zero, suc, Bool, true, false, cond, ◌&&◌, ◌≡◌, ◌≤◌, ◌*◌, ◌/◌, ◌%◌, eqb, Option, Some, None, IfSome, IsNone, ◌↔◌, inl, inr, refl, sym, ap, ◌∙◌, subst, arith}
use Rattle.std.specs.Int.{◌∣◌}
use Rattle.std.specs.Option.{option_map}
use Rattle.std.proofs.lemmas.Bool.{cases_lt, false≢true}
use Rattle.std.proofs.lemmas.Nat.Gcd.{dvd_of_mod-eq-zero, mod-eq-zero_of_dvd, le_of_dvd}
use Rattle.std.proofs.Math.Nat.{one-dvd, mul-div_cancel', mul-dvd-mul_left, mul-le-mul_left, mul-le-mul_right, le_of_mul-le-mul_right, eq_of_mul-eq-mul_left, pos_of_dvd_of_pos}
use Rattle.std.proofs.lemmas.Grind.{common_steps}
use Rattle.sig_base.specs.Fraction.{IsLowest, IsSameFraction, over}
use Rattle.sig_base.specs.Ratio.{fraction_of}
use Rattle.sig_base.specs.declared.ratio.Ratio.{Ratio}
use Rattle.sig_base.proofs.Lowest.{same_lowest}
use Rattle.command_words.specs.Multiple.{common_divisor_up_to, in_lowest_terms, greatest_part}
use Rattle.command_words.specs.InRange.{IsLeast}

chosen : (P : ℕ → Type 0) (test : Bool) (one other : ℕ) → (test ≡ true → P one) → (test ≡ false → P other) → P (cond test one other)
chosen P true one other p q = p refl
chosen P false one other p q = q refl

record Divides (a b d : ℕ) : Type 0 where
  positive : 1 ≤ d
  num : d ∣ a
  den : d ∣ b

divides_both : (n a b : ℕ) → Divides a b (common_divisor_up_to n a b)
unfolding common_divisor_up_to
divides_both zero a b = record { positive = omega arith; num = one-dvd a; den = one-dvd b }
divides_both (suc n) a b =
    chosen (Divides a b) (eqb (a % suc n) 0 && eqb (b % suc n) 0) (suc n) (common_divisor_up_to n a b)
    (λ e. record { positive = omega arith; num = dvd_of_mod-eq-zero (suc n) (grind (arith, common_steps)); den = dvd_of_mod-eq-zero (suc n) (grind (arith, common_steps)) })
    (λ e. divides_both n a b)

is_tested : (a b k : ℕ) → k ∣ a → k ∣ b → (eqb (a % k) 0 && eqb (b % k) 0) ≡ true
is_tested a b k p q = let e = mod-eq-zero_of_dvd k p in let f = mod-eq-zero_of_dvd k q in rw (e, f) refl

greatest : (n a b k : ℕ) → 1 ≤ k → k ≤ n → k ∣ a → k ∣ b → k ≤ common_divisor_up_to n a b
unfolding common_divisor_up_to
greatest zero a b k some few p q = absurd (omega arith)
greatest (suc n) a b k some few p q =
    chosen (λ d. k ≤ d) (eqb (a % suc n) 0 && eqb (b % suc n) 0) (suc n) (common_divisor_up_to n a b)
    (λ e. few)
    (λ e. elim (cases_lt k (suc n)) [
      | inl below ↦ greatest n a b k some (omega arith) p q
      | inr last ↦
          let same : k ≡ suc n = omega arith in
          absurd (false≢true (sym e ∙ subst (λ m. (eqb (a % m) 0 && eqb (b % m) 0) ≡ true) same (is_tested a b k p q)))
    ])

quotient_positive : (b d q : ℕ) → 1 ≤ b → d * q ≡ b → 1 ≤ q
quotient_positive b d zero p e = let h : d * 0 ≡ b = e in omega arith
quotient_positive b d (suc q) p e = omega arith

-- both parts are the divisor times their quotients
record AreQuotients (a b d : ℕ) : Type 0 where
  positive : 1 ≤ d
  num : d * (a / d) ≡ a
  den : d * (b / d) ≡ b
  some : 1 ≤ b / d

quotients : (a b : ℕ) → 1 ≤ b → AreQuotients a b (common_divisor_up_to b a b)
quotients a b some =
    let d = common_divisor_up_to b a b in
    let both = divides_both b a b in
    let den : d * (b / d) ≡ b = mul-div_cancel' d both.den in
    record { positive = both.positive; num = mul-div_cancel' d both.num; den = den; some = quotient_positive b d (b / d) some den }

divides_one : (k q : ℕ) → 1 ≤ q → k ∣ q → (1 ≤ k → k ≤ 1) → k ∣ 1
divides_one k q some p few =
    let above : 1 ≤ k = pos_of_dvd_of_pos p some in
    let one : k ≡ 1 = omega (arith, few above) in
    subst (λ n. n ∣ 1) (sym one) (one-dvd 1)

-- a common divisor of the quotients times the divisor divides both parts, and so is at most the divisor
only_one : (a b k : ℕ) → 1 ≤ b → k ∣ a / common_divisor_up_to b a b → k ∣ b / common_divisor_up_to b a b → 1 ≤ k → k ≤ 1
only_one a b k some p q above =
    let d = common_divisor_up_to b a b in
    let parts = quotients a b some in
    let first : d * k ∣ a = subst (λ x. d * k ∣ x) parts.num (mul-dvd-mul_left k d p) in
    let second : d * k ∣ b = subst (λ x. d * k ∣ x) parts.den (mul-dvd-mul_left k d q) in
    let positive : 1 ≤ d * k = omega (arith, mul-le-mul_left d above, parts.positive) in
    let few : d * k ≤ d = greatest b a b (d * k) positive (le_of_dvd some second) first second in
    let scaled : k * d ≤ 1 * d = omega (arith, few) in
    le_of_mul-le-mul_right scaled parts.positive

lowest : (a b : ℕ) → 1 ≤ b → IsLowest (in_lowest_terms a b).num (in_lowest_terms a b).den
lowest a b some =
    let parts = quotients a b some in
    record { positive = parts.some; coprime = (one-dvd _, one-dvd _, λ k p q. divides_one k _ parts.some q (only_one a b k some p q)) }

same_quotients : (n m a b d q r : ℕ) → 1 ≤ d → d * q ≡ a → d * r ≡ b → n * b ≡ a * m → n * r ≡ q * m
same_quotients n m a b d q r some e f same =
    let whole : n * (d * r) ≡ d * q * m = rw (← e, ← f) at same in
    let scaled : d * (n * r) ≡ d * (q * m) = omega (arith, whole) in
    eq_of_mul-eq-mul_left d some (n * r) (q * m) scaled

the_lowest : (r : Ratio) (a b : ℕ) → 1 ≤ b → IsSameFraction (fraction_of r) (over a b) → fraction_of r ≡ in_lowest_terms a b
the_lowest r a b some same =
    let parts = quotients a b some in
    let parted = same_quotients r.num r.den a b _ _ _ parts.positive parts.num parts.den same in
    let one = same_lowest r.num r.den (in_lowest_terms a b).num (in_lowest_terms a b).den r.lowest (lowest a b some) parted in
    ap (λ n. over n r.den) one.0 ∙ ap (λ d. over (in_lowest_terms a b).num d) one.1

pub lowest_terms : (r : Option Ratio) (a b : ℕ) → 1 ≤ b → IsNone r ↔ (b ≡ 0) → IfSome r (λ x. IsSameFraction (fraction_of x) (over a b)) → option_map fraction_of r ≡ Some (in_lowest_terms a b)
lowest_terms None a b some none same = absurd (omega (arith, none.0 refl))
lowest_terms (Some r) a b some none same = ap Some (the_lowest r a b some same)

at_most_whole : (a d q : ℕ) → 1 ≤ d → d * q ≡ a → q ≤ a
at_most_whole a d q some e = omega (arith, mul-le-mul_right q some)

pub in_range : (r : Option Ratio) (a b : ℕ) → 1 ≤ b → a ≤ greatest_part → b ≤ greatest_part → option_map fraction_of r ≡ Some (in_lowest_terms a b) → IfSome r (λ x. IsLeast (fraction_of x))
in_range None a b some p q e = tt
in_range (Some r) a b some p q e =
    let parts = quotients a b some in
    let least : IsLeast (in_lowest_terms a b) = record {
      num = omega (arith, p, at_most_whole a _ _ parts.positive parts.num);
      den = omega (arith, q, at_most_whole b _ _ parts.positive parts.den);
      lowest = lowest a b some;
    } in
    let same : fraction_of r ≡ in_lowest_terms a b = cc in
    subst IsLeast (sym same) least
