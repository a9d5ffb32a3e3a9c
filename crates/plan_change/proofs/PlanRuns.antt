-- The runs of a plan that fits keep apart.
use Rattle.std.proofs.Common.{ℕ, Some, ◌≡◌, ◌≤◌, ◌<◌, ◌+◌, ◌-◌, ◌*◌, inl, inr, ap, arith}
use Rattle.std.proofs.lemmas.Bool.{cases_lt}
use Rattle.std.proofs.Math.Nat.{mul-le-mul_right}
use Rattle.sig_base.proofs.Option.{some_value}
use Rattle.conflict_matrix.specs.Matrix.{intergreen_of}
use Rattle.junction_model.specs.Junction.{JunctionView}
use Rattle.junction_model.specs.Rules.{IsJunction}
use Rattle.plan_model.specs.SignalPlan.{PlanView, start_of, green_of}
use Rattle.plan_model.specs.Fits.{Fits, group_count}
use Rattle.plan_model.proofs.Phase.{phase, once, gaps_sum}
use Rattle.plan_model.proofs.Gaps.{gaps_of_clear}
use Rattle.plan_model.proofs.GreenBelowCycle.{green_below_cycle_law}
use Rattle.plan_model.proofs.IsShown.{group_there, fits_shown, shown_start, shown_green}
use Rattle.plan_change.specs.Schedule.{times_at, own_gap, plan_runs}
use Rattle.plan_change.proofs.Schedule.{planned, times_there}

-- between two starts, the first not after the second, there are at least the seconds round the cycle
turns : (b c s r m n : ℕ) → s < c → r < c → b + s + m * c ≤ b + r + n * c → b + s + m * c + phase c s r ≤ b + r + n * c
turns b c s r m n hs hr order = elim (once c (r + c - s) (omega arith)) [
  | inl before ↦ elim (cases_lt m n) [
    | inl later ↦
        let more : (m + 1) * c ≤ n * c = mul-le-mul_right c (omega (arith, later)) in
        let next : (m + 1) * c ≡ m * c + c = grind arith in
        omega (arith, before.0, before.1)
    | inr same ↦ let more : n * c ≤ m * c = mul-le-mul_right c same in absurd (omega (arith, before.0))
  ]
  | inr after ↦ elim (cases_lt n m) [
    | inl later ↦
        let more : (n + 1) * c ≤ m * c = mul-le-mul_right c (omega (arith, later)) in
        let next : (n + 1) * c ≡ n * c + c = grind arith in
        absurd (omega arith)
    | inr same ↦ let more : m * c ≤ n * c = mul-le-mul_right c same in omega (arith, after.0, after.1)
  ]
]

-- and between two starts of one group a cycle
pub next_turn : (b c s m n : ℕ) → b + s + m * c < b + s + n * c → b + s + m * c + c ≤ b + s + n * c
next_turn b c s m n order = elim (cases_lt m n) [
  | inl later ↦
      let more : (m + 1) * c ≤ n * c = mul-le-mul_right c (omega (arith, later)) in
      let next : (m + 1) * c ≡ m * c + c = grind arith in
      omega arith
  | inr same ↦ let more : n * c ≤ m * c = mul-le-mul_right c same in absurd (omega arith)
]

module _ (junction : JunctionView) (p : PlanView) (rules : IsJunction junction) (fits : Fits junction p) where
  -- a green, the amber after it and the red-amber before the next one are shorter than the cycle
  pub own_round : (i : ℕ) → i < group_count junction → green_of p i + own_gap junction i < p.cycle
  own_round i h =
      let group = group_there junction i h in
      let shown = fits_shown junction p rules fits in
      let same = rules.conflicts.same_groups in
      let few : group_count junction ≤ 16 = rules.groups.few in
      let partner = rules.conflicts.partnered i (omega (arith, same)) in
      let j = partner.0 in
      let inside : j < group_count junction = omega (arith, same, partner.1) in
      let w = some_value (intergreen_of junction.conflicts i j) partner.2 in
      let v = some_value (intergreen_of junction.conflicts j i) (rules.conflicts.table.symmetric i j (omega arith) (omega arith) partner.2) in
      let other = group_there junction j inside in
      let there = rw (w.1, group.1, other.1) at (rules.conflicts.long_enough i h j inside) in
      let back = rw (v.1, other.1, group.1) at (rules.conflicts.long_enough j inside i h) in
      let gaps = gaps_of_clear junction p shown fits.clear in
      let forth = gaps i j w.0 h inside w.1 in
      let home = gaps j i v.0 inside h v.1 in
      let sum = gaps_sum p.cycle (start_of p i) (start_of p j) (shown_start junction p i shown h) (shown_start junction p j shown inside) in
      let times : times_at junction i ≡ group.0.times = times_there junction i group.0 group.1 in
      let amber : (times_at junction i).amber ≡ group.0.times.amber = ap (λ x. x.amber) times in
      let red_amber : (times_at junction i).red_amber ≡ group.0.times.red_amber = ap (λ x. x.red_amber) times in
      omega (arith, amber, red_amber, there.amber, back.red_amber, forth, home, sum, shown_green junction p j shown inside)

  pub plan_spaced : (k i a b g h : ℕ) → i < group_count junction → plan_runs p k i a ≡ Some g → plan_runs p k i b ≡ Some h → a < b → a + g + own_gap junction i ≤ b
  plan_spaced k i a b g h inside e f order =
      let x = planned p k i a g e in
      let y = planned p k i b h f in
      let a_is : a ≡ k + start_of p i + x.1 * p.cycle = x.2 in
      let b_is : b ≡ k + start_of p i + y.1 * p.cycle = y.2 in
      let turn = next_turn k p.cycle (start_of p i) x.1 y.1 (omega arith) in
      omega (arith, x.0, a_is, b_is, turn, own_round i inside)

  pub plan_clear : (k i j w a b g h : ℕ) → i < group_count junction → j < group_count junction → intergreen_of junction.conflicts i j ≡ Some w →
      plan_runs p k i a ≡ Some g → plan_runs p k j b ≡ Some h → a ≤ b → a + g + w ≤ b
  plan_clear k i j w a b g h hi hj is e f order =
      let shown = fits_shown junction p rules fits in
      let x = planned p k i a g e in
      let y = planned p k j b h f in
      let a_is : a ≡ k + start_of p i + x.1 * p.cycle = x.2 in
      let b_is : b ≡ k + start_of p j + y.1 * p.cycle = y.2 in
      let turn = turns k p.cycle (start_of p i) (start_of p j) x.1 y.1 (shown_start junction p i shown hi) (shown_start junction p j shown hj) (omega arith) in
      omega (arith, x.0, a_is, b_is, turn, gaps_of_clear junction p shown fits.clear i j w hi hj is)

  pub plan_long : (k i a g : ℕ) → i < group_count junction → plan_runs p k i a ≡ Some g → ((times_at junction i).min_green ≤ g) × (1 ≤ g) × (g < 300)
  plan_long k i a g inside e =
      let x = planned p k i a g e in
      let group = group_there junction i inside in
      let times : (times_at junction i).min_green ≡ group.0.times.min_green = ap (λ t. t.min_green) (times_there junction i group.0 group.1) in (
        omega (arith, x.0, times, fits.greens i group.0 group.1),
        omega (arith, x.0, shown_green junction p i (fits_shown junction p rules fits) inside),
        omega (arith, x.0, green_below_cycle_law junction p i rules fits inside, fits.cycle.greatest, rules.cycles.longest),
      )
