-- The counters: seconds to the next start, told at second 0 and from one second to the next.
use Rattle.std.proofs.Common.{ℕ, List, ◌≡◌, ◌≢◌, ◌≤◌, ◌<◌, ◌+◌, ◌-◌, ◌%◌, ◌==◌, if◌then◌else◌, Some, set, length, get_or, slice_get, inl, inr, refl, sym, ap, ◌∙◌, arith, get_or-set_same, get_or-set_other, length-set}
use Rattle.std.specs.Option.{option_map}
use Rattle.std.proofs.lemmas.Bool.{cases_lt}
use Rattle.std.proofs.lemmas.Bool.Decides.{nat_tests}
use Rattle.std.proofs.Math.Nat.{mod-eq_of_lt, mod_self}
use Rattle.junction_model.specs.declared.group.Group.{Group}
use Rattle.junction_model.specs.Junction.{JunctionView}
use Rattle.junction_model.specs.Rules.{IsJunction}
use Rattle.plan_model.specs.SignalPlan.{PlanView, start_of, green_of}
use Rattle.plan_model.specs.Fits.{Fits}
use Rattle.plan_model.proofs.Phase.{phase, phase_below, phase_on}
use Rattle.aspect_player.specs.declared.aspect.Aspect.{Aspect}
use Rattle.aspect_player.specs.Aspect.{aspect_at}
use Rattle.aspect_player.specs.Counts.{left_at}
use Rattle.aspect_player.specs.Phases.{aspect_by}
use Rattle.aspect_player.proofs.ByPhase.{aspect_by_left}
use Rattle.aspect_player.proofs.Safety.{plays}

chosen : (a b x y v : ℕ) → (a ≡ b → x ≡ v) → (a ≢ b → y ≡ v) → (if a == b then x else y) ≡ v
chosen a b x y v p q = grind (arith, nat_tests, p, q)

first_phase : (c s : ℕ) → 1 ≤ s → s < c → phase c s 0 ≡ c - s
first_phase c s some early =
    let plain : 0 + c - s ≡ c - s = omega arith in ap (λ n. n % c) plain ∙ mod-eq_of_lt (omega arith)

first_left : (c s : ℕ) → s < c → (if s == 0 then c else s) ≡ c - phase c s 0
first_left c s early = chosen s 0 c s (c - phase c s 0)
    (λ none. let whole : 0 + c - s ≡ c = omega arith in let zero : phase c s 0 ≡ 0 = ap (λ n. n % c) whole ∙ mod_self c in omega arith)
    (λ some. omega (arith, first_phase c s (omega arith) early))

next_left : (c s t : ℕ) → s < c → (if c - phase c s t == 1 then c else c - phase c s t - 1) ≡ c - phase c s (t + 1)
next_left c s t early =
    let below : phase c s t < c = phase_below c s t (omega arith) in
    let on : phase c s (t + 1) ≡ (phase c s t + 1) % c = phase_on c s t 1 (omega arith) in
    chosen (c - phase c s t) 1 c (c - phase c s t - 1) (c - phase c s (t + 1))
    (λ last. let whole : phase c s t + 1 ≡ c = omega arith in let zero : (phase c s t + 1) % c ≡ 0 = ap (λ n. n % c) whole ∙ mod_self c in omega arith)
    (λ more. let same : (phase c s t + 1) % c ≡ phase c s t + 1 = mod-eq_of_lt (omega arith) in omega arith)

-- the counters below i hold what they do at second t
pub record IsFilled (p : PlanView) (t i : ℕ) (left : List ℕ) : Type 0 where
  pub room : length left ≡ 16
  pub counted : (k : ℕ) → k < i → get_or left k 0 ≡ left_at p k t

filled_more : (p : PlanView) (t i v : ℕ) (left : List ℕ) → IsFilled p t i left → i < 16 → v ≡ left_at p i t → IsFilled p t (i + 1) (set left i v)
filled_more p t i v left filled few e = record {
  room = omega (arith, length-set left i v, filled.room);
  counted = λ k h. elim (cases_lt k i) [
    | inl below ↦ let other : k ≢ i = omega arith in rw get_or-set_other (filled.counted k below)
    | inr last ↦
        let same : k ≡ i = omega arith in
        let inside : i < length left = omega (arith, filled.room) in
        rw (same, get_or-set_same) e
  ];
}

pub filled_first : (p : PlanView) (i v start cycle : ℕ) (left : List ℕ) → IsFilled p 0 i left → i < 16 → start_of p i < p.cycle →
    start ≡ start_of p i → cycle ≡ p.cycle → v ≡ (if start == 0 then cycle else start) → IsFilled p 0 (i + 1) (set left i v)
filled_first p i v start cycle left filled few early e f is =
    let same : (if start == 0 then cycle else start) ≡ (if start_of p i == 0 then p.cycle else start_of p i) = rw (e, f) refl in
    filled_more p 0 i v left filled few (is ∙ same ∙ first_left p.cycle (start_of p i) early)

-- those below i have counted down, the others wait
pub record IsTicking (p : PlanView) (groups t i : ℕ) (left : List ℕ) : Type 0 where
  pub filled : IsFilled p (t + 1) i left
  pub waiting : (k : ℕ) → i ≤ k → k < groups → get_or left k 0 ≡ left_at p k t

pub ticked_more : (p : PlanView) (groups t i v old cycle : ℕ) (left : List ℕ) → IsTicking p groups t i left → i < groups → groups ≤ 16 →
    start_of p i < p.cycle → old ≡ get_or left i 0 → cycle ≡ p.cycle → v ≡ (if old == 1 then cycle else old - 1) → IsTicking p groups t (i + 1) (set left i v)
ticked_more p groups t i v old cycle left ticking inside few early e f is =
    let counter : old ≡ left_at p i t = e ∙ ticking.waiting i (omega arith) inside in
    let same : (if old == 1 then cycle else old - 1) ≡ (if left_at p i t == 1 then p.cycle else left_at p i t - 1) = rw (counter, f) refl in
    record {
      filled = filled_more p (t + 1) i v left ticking.filled (omega arith) (is ∙ same ∙ next_left p.cycle (start_of p i) t early);
      waiting = λ k later h. let other : k ≢ i = omega arith in rw get_or-set_other (ticking.waiting k (omega arith) h);
    }

pub aspect_is : (junction : JunctionView) (p : PlanView) (i t left cycle green : ℕ) (group : Group) (shown : Aspect) → IsJunction junction → Fits junction p →
    slice_get junction.groups i ≡ Some group → left ≡ left_at p i t → cycle ≡ p.cycle → green ≡ green_of p i → shown ≡ aspect_by left cycle green group.times →
    Some shown ≡ option_map (λ (found : Group). aspect_at p i found.times t) (slice_get junction.groups i)
aspect_is junction p i t left cycle green group shown rules fits there e f g is =
    let same : aspect_by left cycle green group.times ≡ aspect_by (left_at p i t) p.cycle (green_of p i) group.times = rw (e, f, g) refl in
    let own : shown ≡ aspect_at p i group.times t = is ∙ same ∙ sym (aspect_by_left p i t group.times (plays junction p i group rules fits there)) in
    rw there (ap Some own)
