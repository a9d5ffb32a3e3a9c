-- Why a plan is clear exactly where its gaps are long enough.
use Rattle.std.proofs.Common.{ℕ, ◌≡◌, ◌+◌, ◌-◌, ◌%◌, ◌<◌, ◌≤◌, min, inl, inr, sym, ap, ◌∙◌, arith, zero-add}
use Rattle.std.specs.Prelude.{Some, is_some}
use Rattle.std.proofs.Math.Nat.{mod-lt, mod-eq_of_lt}
use Rattle.std.proofs.lemmas.Bool.{cases_lt}
use Rattle.conflict_matrix.specs.Matrix.{intergreen_of}
use Rattle.junction_model.specs.Junction.{JunctionView}
use Rattle.junction_model.specs.Rules.{IsJunction}
use Rattle.plan_model.specs.SignalPlan.{PlanView, start_of, green_of}
use Rattle.plan_model.specs.Fits.{ClashesAt, IsClear, Fits, group_count}
use Rattle.plan_model.specs.Gap.{gap, HasGaps, IsShown, IsSpaced, GapLaw, SpacingLaw}
use Rattle.plan_model.proofs.Phase.{phase, phase_below, phase_start, phase_on, phase_round, phase_by, phase_at_gap, gaps_sum}
use Rattle.sig_base.proofs.Option.{some_value}
use Rattle.plan_model.proofs.IsShown.{each_shown, fits_shown, shown_start, shown_green}

-- in a gap that is too short, the last second of i's green that it holds, and how long j's start is after it
last_second : (p : PlanView) (i j w : ℕ) → start_of p i < p.cycle → start_of p j < p.cycle → 1 ≤ green_of p i → 1 ≤ green_of p j →
    gap p i j < green_of p i + w → (t : ℕ) × (t < p.cycle) × ClashesAt p w i j t
last_second p i j w si sj gi gj short =
    let c = p.cycle in
    let some : 1 ≤ c = omega arith in
    let m : ℕ = min (green_of p i - 1) (gap p i j) in
    let d : ℕ = gap p i j - m in
    let below : gap p i j < c = phase_below c (start_of p i) (start_of p j) some in
    let less : m < c = omega arith in
    let t : ℕ = (start_of p i + m) % c in
    let green : phase c (start_of p i) t ≡ m =
    phase_round c (start_of p i) (start_of p i + m) (omega arith) ∙ phase_on c (start_of p i) (start_of p i) m (omega arith)
    ∙ ap (λ n. (n + m) % c) (phase_start c (start_of p i)) ∙ ap (λ n. n % c) (zero-add m) ∙ mod-eq_of_lt less in
    let meets : phase c (start_of p j) (t + d) ≡ 0 =
    phase_on c (start_of p j) t d (omega arith)
    ∙ ap (λ n. (n + d) % c) (phase_round c (start_of p j) (start_of p i + m) (omega arith))
    ∙ sym (phase_on c (start_of p j) (start_of p i + m) d (omega arith))
    ∙ ap (λ n. phase c (start_of p j) n) (omega arith)
    ∙ phase_at_gap c (start_of p i) (start_of p j) (omega arith) (omega arith) in
    (t, mod-lt _ some, (omega (arith, green), (d, omega arith, omega (arith, meets))))

gap_of_clear : (p : PlanView) (i j w : ℕ) → start_of p i < p.cycle → start_of p j < p.cycle → 1 ≤ green_of p i → 1 ≤ green_of p j →
    ((t : ℕ) → t < p.cycle → ¬ ClashesAt p w i j t) → green_of p i + w ≤ gap p i j
gap_of_clear p i j w si sj gi gj clear = elim (cases_lt (gap p i j) (green_of p i + w)) [
  | inl short ↦ let last = last_second p i j w si sj gi gj short in absurd (clear last.0 last.1 last.2)
  | inr long ↦ long
]

-- counted from i's start, j's green would begin too late
clear_of_gap : (p : PlanView) (i j w t : ℕ) → start_of p i < p.cycle → start_of p j < p.cycle →
    green_of p i + w ≤ gap p i j → green_of p j ≤ gap p j i → ¬ ClashesAt p w i j t
clear_of_gap p i j w t si sj there back clash =
    let c = p.cycle in
    let d = clash.1.0 in
    let a : ℕ = phase c (start_of p i) t in
    let b : ℕ = phase c (start_of p j) (t + d) in
    let green_i : a < green_of p i = clash.0 in
    let green_j : b < green_of p j = clash.1.2 in
    let within : d ≤ w = clash.1.1 in
    let below : gap p i j < c = phase_below c (start_of p i) (start_of p j) (omega arith) in
    let sum : gap p i j + gap p j i ≤ c = gaps_sum c (start_of p i) (start_of p j) si sj in
    let less_a : a + d < c = omega arith in
    let less_b : b + gap p i j < c = omega arith in
    let from_i : phase c (start_of p i) (t + d) ≡ a + d = phase_on c (start_of p i) t d (omega arith) ∙ mod-eq_of_lt less_a in
    let from_j : phase c (start_of p i) (t + d) ≡ b + gap p i j =
    phase_by c (start_of p i) (start_of p j) (t + d) (omega arith) (omega arith) ∙ mod-eq_of_lt less_b in
    let same : a + d ≡ b + gap p i j = sym from_i ∙ from_j in
    omega arith

-- the intergreen the other way
way_back : (junction : JunctionView) (i j w : ℕ) → IsJunction junction → i < group_count junction → j < group_count junction →
    intergreen_of junction.conflicts i j ≡ Some w → (v : ℕ) × (intergreen_of junction.conflicts j i ≡ Some v)
way_back junction i j w rules hi hj is =
    let few : group_count junction ≤ 16 = rules.groups.few in
    some_value (intergreen_of junction.conflicts j i)
    (rules.conflicts.table.symmetric i j (omega arith) (omega arith) (ap is_some is))

pub gaps_of_clear : (junction : JunctionView) (p : PlanView) → IsShown junction p → IsClear junction p → HasGaps junction p
gaps_of_clear junction p shown clear i j w hi hj is =
    gap_of_clear p i j w (shown_start junction p i shown hi) (shown_start junction p j shown hj) (shown_green junction p i shown hi)
    (shown_green junction p j shown hj) (λ t h. clear i j w t hi hj is h)

pub clear_of_gaps : (junction : JunctionView) (p : PlanView) → IsJunction junction → IsShown junction p → HasGaps junction p → IsClear junction p
clear_of_gaps junction p rules shown gaps i j w t hi hj is h =
    let back = way_back junction i j w rules hi hj is in
    let other = gaps j i back.0 hj hi back.1 in
    clear_of_gap p i j w t (shown_start junction p i shown hi) (shown_start junction p j shown hj) (gaps i j w hi hj is) (omega (arith, other))

pub gap_law : GapLaw
gap_law junction p rules shown = (gaps_of_clear junction p shown, clear_of_gaps junction p rules shown)

spaced : (junction : JunctionView) (p : PlanView) → IsJunction junction → Fits junction p → IsSpaced junction p
spaced junction p rules fits = record {
  groups = fits.groups;
  cycle = fits.cycle;
  starts = fits.starts;
  greens = fits.greens;
  longest = fits.longest;
  gaps = gaps_of_clear junction p (fits_shown junction p rules fits) fits.clear;
  links = fits.links;
}

pub spaced_fits : (junction : JunctionView) (p : PlanView) → IsJunction junction → IsSpaced junction p → Fits junction p
spaced_fits junction p rules apart = record {
  groups = apart.groups;
  cycle = apart.cycle;
  starts = apart.starts;
  greens = apart.greens;
  longest = apart.longest;
  clear = clear_of_gaps junction p rules (each_shown junction p rules apart.groups apart.cycle apart.starts apart.greens) apart.gaps;
  links = apart.links;
}

pub spacing_law : SpacingLaw
spacing_law junction p rules = (spaced junction p rules, spaced_fits junction p rules)
