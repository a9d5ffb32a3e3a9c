-- The aspect at a second follows from the seconds since the last start.
use Rattle.std.proofs.Common.{ℕ, zero, suc, Bool, true, false, ◌≡◌, ◌≤◌, ◌<◌, ◌+◌, ◌-◌, ◌*◌, ◌%◌, ltb, leb, inl, inr, refl, sym, ap, ◌∙◌, subst, arith}
use Rattle.std.specs.Cmp.{both_ways}
use Rattle.std.proofs.lemmas.Bool.{cases_lt, false≢true, le-leb, leb-true, lt-ltb, ltb-false, ltb-true, or_cases, or_right}
use Rattle.std.proofs.lemmas.Bool.Decides.{nat_tests}
use Rattle.std.proofs.Math.Nat.{mod-eq_of_lt, mod_self, add-mul-mod_self_right}
use Rattle.sig_base.specs.declared.group_times.GroupTimes.{GroupTimes}
use Rattle.plan_model.specs.SignalPlan.{PlanView, GreenAt, start_of, green_of}
use Rattle.plan_model.proofs.Phase.{phase, phase_below, phase_on, once}
use Rattle.aspect_player.specs.declared.aspect.Aspect.TheVariants.{Green, Amber}
use Rattle.aspect_player.specs.Aspect.{is_green, one_of_first, was_green, will_be_green, aspect_at}
use Rattle.aspect_player.specs.Counts.{left_at}
use Rattle.aspect_player.specs.Phases.{aspect_by}
use Rattle.aspect_player.proofs.Choice.{choice, same_choice, choice_green}

-- what the plan of a group with these times has to keep
pub record IsPlayed (p : PlanView) (i : ℕ) (times : GroupTimes) : Type 0 where
  pub start : start_of p i < p.cycle
  pub some : 1 ≤ green_of p i
  pub short : green_of p i + times.amber < p.cycle
  pub brief : times.amber ≤ 30

passes : (n : ℕ) (test : ℕ → Bool) (k : ℕ) → 1 ≤ k → k ≤ n → test k ≡ true → one_of_first n test ≡ true
unfolding one_of_first
passes zero test k some few e = absurd (omega arith)
passes (suc n) test k some few e = elim (cases_lt k (suc n)) [
  | inl below ↦ or_right (test (suc n)) (one_of_first n test) (passes n test k some (omega arith) e)
  | inr last ↦ let same : k ≡ suc n = omega arith in let own = subst (λ m. test m ≡ true) same e in rw own refl
]

found : (n : ℕ) (test : ℕ → Bool) → one_of_first n test ≡ true → (k : ℕ) × (1 ≤ k) × (k ≤ n) × (test k ≡ true)
unfolding one_of_first
found zero test e = absurd (false≢true e)
found (suc n) test e = elim (or_cases (test (suc n)) (one_of_first n test) e) [
  | inl own ↦ (suc n, omega arith, omega arith, own)
  | inr later ↦ let rest = found n test later in (rest.0, rest.1, omega (arith, rest.2), rest.3)
]

-- k seconds before, 30 cycles on
before : (c s t k : ℕ) → s < c → k ≤ 30 → (phase c s (t + 30 * c - k) + k) % c ≡ phase c s t
before c s t k early few =
    let back : t + 30 * c - k + k ≡ t + 30 * c = omega arith in
    let round : t + 30 * c + c - s ≡ (t + c - s) + 30 * c = omega arith in
    sym (phase_on c s (t + 30 * c - k) k (omega arith)) ∙ ap (phase c s) back ∙ ap (λ n. n % c) round ∙ add-mul-mod_self_right (t + c - s) 30 c

green_before : (p : PlanView) (i t k m : ℕ) (times : GroupTimes) → IsPlayed p i times → k ≤ m → m ≤ times.amber → 1 ≤ k →
    green_of p i ≤ phase p.cycle (start_of p i) t → phase p.cycle (start_of p i) (t + 30 * p.cycle - k) < green_of p i →
    phase p.cycle (start_of p i) t < green_of p i + m
green_before p i t k m times played few most some over green =
    let c = p.cycle in
    let a : ℕ = phase c (start_of p i) t in
    let b : ℕ = phase c (start_of p i) (t + 30 * c - k) in
    let same : (b + k) % c ≡ a = before c (start_of p i) t k played.start (omega (arith, played.brief)) in
    elim (once c (b + k) (omega (arith, played.short))) [
      | inl w ↦ omega (arith, w.1, same)
      | inr w ↦ absurd (omega (arith, w.1, same, played.short))
    ]

back_to_green : (p : PlanView) (i t : ℕ) (times : GroupTimes) → IsPlayed p i times → green_of p i ≤ phase p.cycle (start_of p i) t →
    phase p.cycle (start_of p i) t < green_of p i + times.amber →
    phase p.cycle (start_of p i) (t + 30 * p.cycle - (phase p.cycle (start_of p i) t + 1 - green_of p i)) < green_of p i
back_to_green p i t times played over under =
    let c = p.cycle in
    let a : ℕ = phase c (start_of p i) t in
    let k : ℕ = a + 1 - green_of p i in
    let b : ℕ = phase c (start_of p i) (t + 30 * c - k) in
    let below : b < c = phase_below c (start_of p i) (t + 30 * c - k) (omega (arith, played.start)) in
    let same : (b + k) % c ≡ a = before c (start_of p i) t k played.start (omega (arith, played.brief)) in
    elim (once c (b + k) (omega (arith, played.short))) [
      | inl w ↦ omega (arith, w.1, same)
      | inr w ↦ absurd (omega (arith, w.1, same, played.some))
    ]

green_in : (p : PlanView) (i t k : ℕ) → start_of p i < p.cycle → green_of p i ≤ phase p.cycle (start_of p i) t →
    phase p.cycle (start_of p i) (t + k) < green_of p i → p.cycle ≤ phase p.cycle (start_of p i) t + k
green_in p i t k early over green =
    let c = p.cycle in
    let a : ℕ = phase c (start_of p i) t in
    let on : phase c (start_of p i) (t + k) ≡ (a + k) % c = phase_on c (start_of p i) t k (omega arith) in
    elim (cases_lt (a + k) c) [
      | inl w ↦ let same : (a + k) % c ≡ a + k = mod-eq_of_lt w in absurd (omega arith)
      | inr w ↦ w
    ]

at_start : (c s t : ℕ) → s < c → phase c s (t + (c - phase c s t)) ≡ 0
at_start c s t early =
    let below : phase c s t < c = phase_below c s t (omega arith) in
    let whole : phase c s t + (c - phase c s t) ≡ c = omega arith in
    phase_on c s t (c - phase c s t) (omega arith) ∙ ap (λ n. n % c) whole ∙ mod_self c

pub aspect_by_left : (p : PlanView) (i t : ℕ) (times : GroupTimes) → IsPlayed p i times →
    aspect_at p i times t ≡ aspect_by (left_at p i t) p.cycle (green_of p i) times
unfolding aspect_at
aspect_by_left p i t times played =
    let c = p.cycle in
    let a : ℕ = phase c (start_of p i) t in
    let g : ℕ = green_of p i in
    let below : a < c = phase_below c (start_of p i) t (omega (arith, played.start)) in
    same_choice _ _ _ _ _ _
    (both_ways _ _ (λ e. lt-ltb _ _ (omega (arith, ltb-true a g e))) (λ e. lt-ltb _ _ (omega (arith, ltb-true c (c - a + g) e))))
    (λ red. let over : g ≤ a = ltb-false a g red in
    both_ways _ _
    (λ e. let k = found _ _ e in lt-ltb _ _ (omega (arith, green_before p i t k.0 times.amber times played k.2 (omega arith) k.1 over (ltb-true _ _ k.3))))
    (λ e. let under : a < g + times.amber = omega (arith, ltb-true c (c - a + g + times.amber) e) in
    passes _ _ (a + 1 - g) (omega arith) (omega arith) (lt-ltb _ _ (back_to_green p i t times played over under))))
    (λ red off. let over : g ≤ a = ltb-false a g red in
    both_ways _ _
    (λ e. let k = found _ _ e in le-leb _ _ (omega (arith, k.2, green_in p i t k.0 played.start over (ltb-true _ _ k.3))))
    (λ e. let few : c - a ≤ times.red_amber = leb-true _ _ e in
    passes _ _ (c - a) (omega arith) few (lt-ltb _ _ (omega (arith, played.some, at_start c (start_of p i) t played.start)))))

pub is_shown_green : (p : PlanView) (i t : ℕ) (times : GroupTimes) → aspect_at p i times t ≡ Green → GreenAt p i t
unfolding aspect_at
is_shown_green p i t times e = ltb-true _ _ (choice_green (is_green p i t) _ _ e)

pub green_shows : (p : PlanView) (i t : ℕ) (times : GroupTimes) → GreenAt p i t → aspect_at p i times t ≡ Green
unfolding aspect_at
green_shows p i t times green = let e : is_green p i t ≡ true = lt-ltb _ _ green in ap (λ x. choice x (was_green p i times.amber t) (will_be_green p i times.red_amber t)) e

pub amber_shows : (p : PlanView) (i t : ℕ) (times : GroupTimes) → IsPlayed p i times → green_of p i ≤ phase p.cycle (start_of p i) t →
    phase p.cycle (start_of p i) t < green_of p i + times.amber → aspect_at p i times t ≡ Amber
amber_shows p i t times played over under =
    let c = p.cycle in
    let a : ℕ = phase c (start_of p i) t in
    let below : a < c = phase_below c (start_of p i) t (omega (arith, played.start)) in
    let red : ltb c (c - a + green_of p i) ≡ false = grind (arith, nat_tests) in
    let on : ltb c (c - a + green_of p i + times.amber) ≡ true = lt-ltb _ _ (omega arith) in
    aspect_by_left p i t times played ∙ same_choice _ false _ true _ (leb (left_at p i t) times.red_amber) red (λ e. on) (λ e f. refl)
