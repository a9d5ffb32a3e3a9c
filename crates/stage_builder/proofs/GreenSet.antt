-- Each second has one set of green groups, and the same one a cycle later.
use Rattle.std.proofs.Common.{ℕ, zero, suc, ◌≡◌, ◌+◌, ◌%◌, ◌^◌, ◌<◌, ◌≤◌, inl, inr, length, sym, ap, ◌∙◌, subst, bit_or, arith, add-one, refl}
use Rattle.std.proofs.lemmas.Bool.{cases_eq, cases_lt}
use Rattle.std.proofs.lemmas.List.{get_or_past}
use Rattle.junction_model.specs.Junction.{JunctionView}
use Rattle.junction_model.specs.Rules.{IsJunction}
use Rattle.plan_model.specs.SignalPlan.{PlanView, GreenAt, start_of, green_of}
use Rattle.plan_model.specs.Fits.{Fits}
use Rattle.plan_model.proofs.Phase.{phase, phase_round}
use Rattle.plan_model.proofs.IsShown.{fits_shown, shown_start}
use Rattle.stage_builder.specs.Stages.{IsGreenSet}
use Rattle.stage_builder.specs.SoFar.{IsGreenSetBelow}
use Rattle.stage_builder.proofs.Bits.{set_with, same_set, none_set}

-- one group more, which is green
pub set_more : (p : PlanView) (n t set : ℕ) → IsGreenSetBelow p n t set → GreenAt p n t → IsGreenSetBelow p (n + 1) t (bit_or set (2 ^ n))
set_more p n t set below green k = (
  λ is. elim ((set_with set n k).0 is) [
    | inl before ↦ let old = (below k).0 before in (omega (arith, old.0), old.1)
    | inr last ↦ (omega arith, subst (λ k. GreenAt p k t) (sym last) green)
  ],
  λ shown. (set_with set n k).1 (elim (cases_eq k n) [
    | inl last ↦ inr last
    | inr other ↦ inl ((below k).1 (omega (arith, other, shown.0), shown.1))
  ]),
)

-- one group more, which isn't
pub set_kept : (p : PlanView) (n t set : ℕ) → IsGreenSetBelow p n t set → (GreenAt p n t → ⊥) → IsGreenSetBelow p (n + 1) t set
set_kept p n t set below not k = (
  λ is. let old = (below k).0 is in (omega (arith, old.0), old.1),
  λ shown. elim (cases_eq k n) [
    | inl last ↦ absurd (not (subst (λ k. GreenAt p k t) last shown.1))
    | inr other ↦ (below k).1 (omega (arith, other, shown.0), shown.1)
  ],
)

pub set_none : (p : PlanView) (t : ℕ) → IsGreenSetBelow p 0 t 0
set_none p t k = (λ is. absurd (none_set k is), λ shown. absurd (omega (arith, shown.0)))

-- a group that is green is one of the plan's
pub green_within : (p : PlanView) (k t : ℕ) → GreenAt p k t → k < length p.greens
green_within p k t green = elim (cases_lt k (length p.greens)) [
  | inl within ↦ within
  | inr past ↦ let none : green_of p k ≡ 0 = get_or_past p.greens k 0 past in absurd (omega (arith, none, green))
]

pub set_all : (p : PlanView) (n t set : ℕ) → n ≡ length p.greens → IsGreenSetBelow p n t set → IsGreenSet p t set
set_all p n t set all below k = (
  λ is. ((below k).0 is).1,
  λ green. (below k).1 (omega (arith, all, green_within p k t green), green),
)

some_below : (p : PlanView) (t n : ℕ) → (set : ℕ) × IsGreenSetBelow p n t set
some_below p t zero = (0, set_none p t)
some_below p t (suc n) =
    let before = some_below p t n in
    subst (λ k. (set : ℕ) × IsGreenSetBelow p k t set) (add-one n)
    (elim (cases_lt (phase p.cycle (start_of p n) t) (green_of p n)) [
      | inl green ↦ (bit_or before.0 (2 ^ n), set_more p n t before.0 before.1 green)
      | inr not ↦ (before.0, set_kept p n t before.0 before.1 (λ green. omega (arith, not, green)))
    ])

pub some_set : (p : PlanView) (t : ℕ) → (set : ℕ) × IsGreenSet p t set
some_set p t = let all = some_below p t (length p.greens) in (all.0, set_all p (length p.greens) t all.0 refl all.1)

pub one_set : (p : PlanView) (t a b : ℕ) → IsGreenSet p t a → IsGreenSet p t b → a ≡ b
one_set p t a b of_a of_b = same_set a b (λ k. (λ is. (of_b k).1 ((of_a k).0 is), λ is. (of_a k).1 ((of_b k).0 is)))

-- no start is past the cycle's end
abbrev pub StartsInCycle : PlanView → Type 0
StartsInCycle p = (k : ℕ) → start_of p k ≤ p.cycle

pub starts_in_cycle : (junction : JunctionView) (p : PlanView) → IsJunction junction → Fits junction p → StartsInCycle p
starts_in_cycle junction p rules fits k = elim (cases_lt k (length p.starts)) [
  | inl within ↦ omega (arith, shown_start junction p k (fits_shown junction p rules fits) (omega (arith, within, fits.groups.starts)))
  | inr past ↦ let none : start_of p k ≡ 0 = get_or_past p.starts k 0 past in omega (arith, none)
]

pub green_again : (p : PlanView) (k t u : ℕ) → StartsInCycle p → t % p.cycle ≡ u % p.cycle → GreenAt p k t → GreenAt p k u
green_again p k t u starts same green =
    let seconds : phase p.cycle (start_of p k) t ≡ phase p.cycle (start_of p k) u =
    sym (phase_round p.cycle (start_of p k) t (starts k)) ∙ ap (phase p.cycle (start_of p k)) same ∙ phase_round p.cycle (start_of p k) u (starts k) in
    omega (arith, seconds, green)

pub set_again : (p : PlanView) (t u set : ℕ) → StartsInCycle p → t % p.cycle ≡ u % p.cycle → IsGreenSet p t set → IsGreenSet p u set
set_again p t u set starts same of k = (
  λ is. green_again p k t u starts same ((of k).0 is),
  λ green. (of k).1 (green_again p k u t starts (sym same) green),
)
