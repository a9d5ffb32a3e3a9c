-- What a group shows, by its runs.
use Rattle.std.proofs.Common.{ℕ, Bool, true, false, Some, ◌&&◌, ◌≡◌, ◌≤◌, ◌<◌, ◌+◌, ltb, leb, refl, sym, ap, ◌∙◌, arith}
use Rattle.std.specs.Cmp.{both_ways}
use Rattle.std.proofs.lemmas.Bool.{false≢true, and_parts, and_from, le-leb, leb-true, lt-ltb, ltb-true}
use Rattle.sig_base.specs.declared.group_times.GroupTimes.{GroupTimes}
use Rattle.aspect_player.specs.declared.aspect.Aspect.TheVariants.{Green, Amber}
use Rattle.aspect_player.proofs.Choice.{choice, same_choice, choice_green}
use Rattle.plan_change.specs.Runs.{Runs, is_in_run, has_ended, will_start, shown_at}
use Rattle.plan_change.specs.Schedule.{is_red_amber}
use Rattle.plan_change.proofs.Tests.{found_run, run_found}

abbrev pub GreenIn : Runs → ℕ → Type 0
GreenIn runs t = (a : ℕ) × (g : ℕ) × (runs a ≡ Some g) × (a ≤ t) × (t < a + g)

abbrev pub AmberIn : Runs → ℕ → ℕ → Type 0
AmberIn runs amber t = (a : ℕ) × (g : ℕ) × (runs a ≡ Some g) × (a + g ≤ t) × (t < a + g + amber)

abbrev pub SoonIn : Runs → ℕ → ℕ → Type 0
SoonIn runs red_amber t = (a : ℕ) × (g : ℕ) × (runs a ≡ Some g) × (t < a) × (a ≤ t + red_amber)

abbrev green_test : ℕ → ℕ → ℕ → Bool
green_test t a g = ltb t (a + g)

abbrev amber_test : ℕ → ℕ → ℕ → ℕ → Bool
amber_test amber t a g = leb (a + g) t && ltb t (a + g + amber)

abbrev soon_test : ℕ → ℕ → ℕ → Bool
soon_test t a g = ltb t a

pub green_in : (runs : Runs) (t : ℕ) → is_in_run runs t ≡ true → GreenIn runs t
green_in runs t e =
    let r = found_run runs (t + 1) (green_test t) e in
    (r.0, r.1, r.3, omega (arith, r.2), ltb-true t (r.0 + r.1) r.4)

pub in_green : (runs : Runs) (t : ℕ) → GreenIn runs t → is_in_run runs t ≡ true
in_green runs t on = run_found runs (t + 1) (green_test t) on.0 on.1 (omega (arith, on.3)) on.2 (lt-ltb t (on.0 + on.1) on.4)

pub amber_in : (runs : Runs) (amber t : ℕ) → has_ended runs amber t ≡ true → AmberIn runs amber t
amber_in runs amber t e =
    let r = found_run runs (t + 1) (amber_test amber t) e in
    let both = and_parts (leb (r.0 + r.1) t) (ltb t (r.0 + r.1 + amber)) r.4 in
    (r.0, r.1, r.3, leb-true (r.0 + r.1) t both.0, ltb-true t (r.0 + r.1 + amber) both.1)

pub in_amber : (runs : Runs) (amber t : ℕ) → AmberIn runs amber t → has_ended runs amber t ≡ true
in_amber runs amber t on = run_found runs (t + 1) (amber_test amber t) on.0 on.1 (omega (arith, on.3)) on.2
    (and_from (leb (on.0 + on.1) t) (ltb t (on.0 + on.1 + amber)) (le-leb (on.0 + on.1) t on.3) (lt-ltb t (on.0 + on.1 + amber) on.4))

pub soon_in : (runs : Runs) (red_amber t : ℕ) → will_start runs red_amber t ≡ true → SoonIn runs red_amber t
soon_in runs red_amber t e =
    let r = found_run runs (t + red_amber + 1) (soon_test t) e in
    (r.0, r.1, r.3, ltb-true t r.0 r.4, omega (arith, r.2))

pub in_soon : (runs : Runs) (red_amber t : ℕ) → SoonIn runs red_amber t → will_start runs red_amber t ≡ true
in_soon runs red_amber t on = run_found runs (t + red_amber + 1) (soon_test t) on.0 on.1 (omega (arith, on.4)) on.2 (lt-ltb t on.0 on.3)

-- the test passes exactly where it's so
abbrev pub Tells : Bool → Type 0 → Type 0
Tells b P = (b ≡ true → P) × (P → b ≡ true)

told : (a b : Bool) (P : Type 0) → Tells a P → Tells b P → a ≡ b
told a b P x y = both_ways a b (λ e. y.1 (x.0 e)) (λ e. x.1 (y.0 e))

green_told : (runs : Runs) (t : ℕ) → Tells (is_in_run runs t) (GreenIn runs t)
green_told runs t = (green_in runs t, in_green runs t)

amber_told : (runs : Runs) (amber t : ℕ) → Tells (has_ended runs amber t) (AmberIn runs amber t)
amber_told runs amber t = (amber_in runs amber t, in_amber runs amber t)

soon_told : (runs : Runs) (red_amber t : ℕ) → Tells (will_start runs red_amber t) (SoonIn runs red_amber t)
soon_told runs red_amber t = (soon_in runs red_amber t, in_soon runs red_amber t)

-- the aspect by other tests
pub shown_as : (runs : Runs) (times : GroupTimes) (t : ℕ) (g a r : Bool) → Tells g (GreenIn runs t) → (g ≡ false → Tells a (AmberIn runs times.amber t)) →
    (g ≡ false → a ≡ false → Tells r (SoonIn runs times.red_amber t)) → choice g a r ≡ shown_at runs times t
unfolding shown_at
shown_as runs times t g a r green amber soon = same_choice g _ a _ r _
    (told g _ _ green (green_told runs t))
    (λ e. told a _ _ (amber e) (amber_told runs times.amber t))
    (λ e f. told r _ _ (soon e f) (soon_told runs times.red_amber t))

not_told : (b : Bool) (P : Type 0) → Tells b P → b ≡ false → ¬ P
not_told b P tells e p = false≢true (sym e ∙ tells.1 p)

told_not : (b : Bool) (P : Type 0) → Tells b P → ¬ P → b ≡ false
told_not true P tells never = absurd (never (tells.0 refl))
told_not false P tells never = refl

pub shown_green : (runs : Runs) (times : GroupTimes) (t : ℕ) → shown_at runs times t ≡ Green → GreenIn runs t
unfolding shown_at
shown_green runs times t e = green_in runs t (choice_green (is_in_run runs t) _ _ e)

pub green_shown : (runs : Runs) (times : GroupTimes) (t : ℕ) → GreenIn runs t → shown_at runs times t ≡ Green
unfolding shown_at
green_shown runs times t on = ap (λ x. choice x (has_ended runs times.amber t) (will_start runs times.red_amber t)) (in_green runs t on)

pub amber_shown : (runs : Runs) (times : GroupTimes) (t : ℕ) → ¬ GreenIn runs t → AmberIn runs times.amber t → shown_at runs times t ≡ Amber
unfolding shown_at
amber_shown runs times t off on =
    ap (λ x. choice x (has_ended runs times.amber t) (will_start runs times.red_amber t)) (told_not _ _ (green_told runs t) off)
    ∙ ap (λ x. choice false x (will_start runs times.red_amber t)) (in_amber runs times.amber t on)

choice_red_amber : (g a r : Bool) → is_red_amber (choice g a r) ≡ true → (g ≡ false) × (a ≡ false) × (r ≡ true)
choice_red_amber true a r e = absurd (false≢true e)
choice_red_amber false true r e = absurd (false≢true e)
choice_red_amber false false true e = (refl, refl, refl)
choice_red_amber false false false e = absurd (false≢true e)

pub shown_red_amber : (runs : Runs) (times : GroupTimes) (t : ℕ) → is_red_amber (shown_at runs times t) ≡ true →
    SoonIn runs times.red_amber t × ¬ GreenIn runs t × ¬ AmberIn runs times.amber t
unfolding shown_at
shown_red_amber runs times t e =
    let parts = choice_red_amber _ _ _ e in
    (soon_in runs times.red_amber t parts.2, not_told _ _ (green_told runs t) parts.0, not_told _ _ (amber_told runs times.amber t) parts.1)

pub red_amber_shown : (runs : Runs) (times : GroupTimes) (t : ℕ) → SoonIn runs times.red_amber t → ¬ GreenIn runs t → ¬ AmberIn runs times.amber t →
    is_red_amber (shown_at runs times t) ≡ true
unfolding shown_at
red_amber_shown runs times t soon off over =
    ap is_red_amber
    (ap (λ x. choice x (has_ended runs times.amber t) (will_start runs times.red_amber t)) (told_not _ _ (green_told runs t) off)
    ∙ ap (λ x. choice false x (will_start runs times.red_amber t)) (told_not _ _ (amber_told runs times.amber t) over)
    ∙ ap (λ x. choice false false x) (in_soon runs times.red_amber t soon))

-- two groups of runs that show the same
pub same_shown : (runs other : Runs) (times : GroupTimes) (t u : ℕ) → (GreenIn runs t → GreenIn other u) → (GreenIn other u → GreenIn runs t) →
    (AmberIn runs times.amber t → AmberIn other times.amber u) → (AmberIn other times.amber u → AmberIn runs times.amber t) →
    (SoonIn runs times.red_amber t → SoonIn other times.red_amber u) → (SoonIn other times.red_amber u → SoonIn runs times.red_amber t) →
    shown_at runs times t ≡ shown_at other times u
unfolding shown_at
same_shown runs other times t u g g' a a' r r' = shown_as other times u _ _ _
    ((λ e. g (green_in runs t e)), (λ on. in_green runs t (g' on)))
    (λ e. ((λ e. a (amber_in runs times.amber t e)), (λ on. in_amber runs times.amber t (a' on))))
    (λ e f. ((λ e. r (soon_in runs times.red_amber t e)), (λ on. in_soon runs times.red_amber t (r' on))))
