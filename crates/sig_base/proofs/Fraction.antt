-- The order of fractions, by cross products.
use Rattle.std.proofs.Common.{◌*◌, ◌<◌, ◌≤◌, arith}
use Rattle.std.proofs.Math.Nat.{le_of_mul-le-mul_right, lt_of_mul-lt-mul_right, mul-le-mul_right, mul-lt-mul_of_pos_right}
use Rattle.sig_base.specs.Fraction.{Fraction, IsSameFraction, IsAtMost, IsBelow}

pub at_most_same : (a b : Fraction) → IsSameFraction a b → IsAtMost a b
at_most_same a b e = omega (arith, e)

pub at_most_trans : (a b c : Fraction) → 1 ≤ b.den → IsAtMost a b → IsAtMost b c → IsAtMost a c
at_most_trans a b c h p q =
    let left : a.num * b.den * c.den ≤ b.num * a.den * c.den = mul-le-mul_right c.den p in
    let right : b.num * c.den * a.den ≤ c.num * b.den * a.den = mul-le-mul_right a.den q in
    let scaled : a.num * c.den * b.den ≤ c.num * a.den * b.den = omega (arith, left, right) in
    le_of_mul-le-mul_right scaled h

pub below_trans : (a b c : Fraction) → 1 ≤ a.den → IsAtMost a b → IsBelow b c → IsBelow a c
below_trans a b c some p q =
    let left : a.num * b.den * c.den ≤ b.num * a.den * c.den = mul-le-mul_right c.den p in
    let right : b.num * c.den * a.den < c.num * b.den * a.den = mul-lt-mul_of_pos_right q some in
    let scaled : a.num * c.den * b.den < c.num * a.den * b.den = omega (arith, left, right) in
    lt_of_mul-lt-mul_right b.den scaled

pub below_at_most : (a b c : Fraction) → 1 ≤ c.den → IsBelow a b → IsAtMost b c → IsBelow a c
below_at_most a b c some p q =
    let left : a.num * b.den * c.den < b.num * a.den * c.den = mul-lt-mul_of_pos_right p some in
    let right : b.num * c.den * a.den ≤ c.num * b.den * a.den = mul-le-mul_right a.den q in
    let scaled : a.num * c.den * b.den < c.num * a.den * b.den = omega (arith, left, right) in
    lt_of_mul-lt-mul_right b.den scaled

pub at_most : (a b : Fraction) → IsBelow a b → IsAtMost a b
at_most a b below = omega arith
