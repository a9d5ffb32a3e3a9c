-- Tests over numbers and over runs, both ways.
use Rattle.std.proofs.Common.{ℕ, zero, suc, Bool, true, false, Option, None, Some, ◌≡◌, ◌≤◌, ◌<◌, ◌+◌, inl, inr, refl, ap, ◌∙◌, subst, arith}
use Rattle.std.proofs.lemmas.Bool.{cases_lt, false≢true, or_left, or_right, or_cases}
use Rattle.std.specs.Option.{option_map_or}
use Rattle.plan_change.specs.Runs.{Runs, some_below, some_run}
use Rattle.plan_change.specs.Schedule.{greatest}

pub some_from : (n : ℕ) (test : ℕ → Bool) (k : ℕ) → k < n → test k ≡ true → some_below n test ≡ true
unfolding some_below
some_from zero test k h e = absurd (omega arith)
some_from (suc n) test k h e = elim (cases_lt k n) [
  | inl below ↦ or_right (test n) (some_below n test) (some_from n test k below e)
  | inr last ↦ let same : k ≡ n = omega arith in or_left (test n) (some_below n test) (subst (λ m. test m ≡ true) same e)
]

pub found : (n : ℕ) (test : ℕ → Bool) → some_below n test ≡ true → (k : ℕ) × (k < n) × (test k ≡ true)
unfolding some_below
found zero test e = absurd (false≢true e)
found (suc n) test e = elim (or_cases (test n) (some_below n test) e) [
  | inl own ↦ (n, omega arith, own)
  | inr rest ↦ let k = found n test rest in (k.0, omega (arith, k.1), k.2)
]

passed : (run : Option ℕ) (test : ℕ → Bool) → option_map_or test run false ≡ true → (g : ℕ) × (run ≡ Some g) × (test g ≡ true)
passed None test e = absurd (false≢true e)
passed (Some g) test e = (g, refl, e)

-- a run that starts before moment m and passes
abbrev pub SomeRun : Runs → ℕ → (ℕ → ℕ → Bool) → Type 0
SomeRun runs m test = (a : ℕ) × (g : ℕ) × (a < m) × (runs a ≡ Some g) × (test a g ≡ true)

pub found_run : (runs : Runs) (m : ℕ) (test : ℕ → ℕ → Bool) → some_run runs m test ≡ true → SomeRun runs m test
found_run runs m test e =
    let k = found m (λ a. option_map_or (test a) (runs a) false) e in
    let g = passed (runs k.0) (test k.0) k.2 in
    (k.0, g.0, k.1, g.1, g.2)

pub run_found : (runs : Runs) (m : ℕ) (test : ℕ → ℕ → Bool) (a g : ℕ) → a < m → runs a ≡ Some g → test a g ≡ true → some_run runs m test ≡ true
run_found runs m test a g h is e =
    let own : option_map_or (test a) (runs a) false ≡ true = ap (λ r. option_map_or (test a) r false) is ∙ e in
    some_from m (λ b. option_map_or (test b) (runs b) false) a h own

pub greatest_most : (n : ℕ) (f : ℕ → ℕ) (k : ℕ) → k < n → f k ≤ greatest n f
unfolding greatest
greatest_most zero f k h = absurd (omega arith)
greatest_most (suc n) f k h = elim (cases_lt k n) [
  | inl below ↦ omega (arith, greatest_most n f k below)
  | inr last ↦ let same : k ≡ n = omega arith in let own : f k ≡ f n = ap f same in omega arith
]

pub greatest_least : (n : ℕ) (f : ℕ → ℕ) (x : ℕ) → ((k : ℕ) → k < n → f k ≤ x) → greatest n f ≤ x
unfolding greatest
greatest_least zero f x h = omega arith
greatest_least (suc n) f x h = omega (arith, h n (omega arith), greatest_least n f x (λ k below. h k (omega arith)))

pub option_most : (o : Option ℕ) (a x : ℕ) → ((g : ℕ) → o ≡ Some g → a + g ≤ x) → option_map_or (λ g. a + g) o 0 ≤ x
option_most None a x h = omega arith
option_most (Some g) a x h = h g refl
