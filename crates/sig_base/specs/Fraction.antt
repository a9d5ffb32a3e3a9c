-- Fractions of whole numbers, compared by cross products.
use Rattle.std.specs.Prelude.{ℕ, ◌≡◌, ◌*◌, ◌<◌, ◌≤◌}
use Rattle.std.specs.Ordering.{nat_cmp}
use Rattle.std.specs.declared.cmp.Ordering.{Ordering}
use Rattle.std.specs.Int.{IsGcd}

pub record Fraction : Type 0 where
  pub num : ℕ
  pub den : ℕ

-- the fraction `num / den`
abbrev pub over : ℕ → ℕ → Fraction
over num den = record { num = num; den = den }

-- the denominator is at least 1, and no number above 1 divides both parts
pub record IsLowest (num den : ℕ) : Type 0 where
  pub positive : 1 ≤ den
  pub coprime : IsGcd num den 1

-- the two have the same value
abbrev pub IsSameFraction : Fraction → Fraction → Type 0
IsSameFraction a b = a.num * b.den ≡ b.num * a.den

abbrev pub fraction_cmp : Fraction → Fraction → Ordering
fraction_cmp a b = nat_cmp (a.num * b.den) (b.num * a.den)

abbrev pub IsAtMost : Fraction → Fraction → Type 0
IsAtMost a b = a.num * b.den ≤ b.num * a.den

abbrev pub IsBelow : Fraction → Fraction → Type 0
IsBelow a b = a.num * b.den < b.num * a.den
