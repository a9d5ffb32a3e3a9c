-- Why each second at which some group is green lies in one stage.
use Rattle.std.proofs.Common.{ℕ, zero, suc, ◌≡◌, ◌≢◌, ◌+◌, ◌-◌, ◌%◌, ◌<◌, ◌≤◌, ◌⊎◌, inl, inr, sym, ap, ◌∙◌, subst, arith, add-one, add-zero, below_more, IsBitSet}
use Rattle.std.proofs.Math.Nat.{mod-lt, mod-add-mod, add-mod_right, mod-eq_of_lt, mod_self}
use Rattle.std.proofs.lemmas.Bool.{cases_eq, cases_lt}
use Rattle.sig_base.proofs.Option.{some_value}
use Rattle.conflict_matrix.specs.Matrix.{intergreen_of}
use Rattle.junction_model.specs.Junction.{JunctionView}
use Rattle.junction_model.specs.Rules.{IsJunction}
use Rattle.plan_model.specs.SignalPlan.{PlanView, GreenAt, start_of}
use Rattle.plan_model.specs.Fits.{Fits, group_count}
use Rattle.plan_model.proofs.Phase.{phase, phase_below, phase_on, phase_at_gap}
use Rattle.plan_model.proofs.IsShown.{fits_shown, shown_green}
use Rattle.stage_builder.specs.Stages.{IsGreenSet, IsStage}
use Rattle.stage_builder.specs.StageLaws.{LiesIn, IsInOneStage, OneStageLaw}
use Rattle.stage_builder.specs.declared.stage.Stage.{Stage}
use Rattle.stage_builder.proofs.Bits.{none_set}
use Rattle.stage_builder.proofs.GreenSet.{StartsInCycle, starts_in_cycle, green_within, some_set, one_set, set_again, green_again}
use Rattle.stage_builder.proofs.Runs.{same_stage}

-- f m is the first of the values that isn't x
abbrev IsFirstOther : (ℕ → ℕ) → ℕ → ℕ → Type 0
IsFirstOther f x m = (f m ≢ x) × ((k : ℕ) → k < m → f k ≡ x)

first_or_none : (f : ℕ → ℕ) (x n : ℕ) → ((m : ℕ) × (m < n) × IsFirstOther f x m) ⊎ ((k : ℕ) → k < n → f k ≡ x)
first_or_none f x zero = inr (λ k h. absurd (omega (arith, h)))
first_or_none f x (suc n) = elim (first_or_none f x n) [
  | inl found ↦ inl (found.0, omega (arith, found.1), found.2)
  | inr all ↦ elim (cases_eq (f n) x) [
    | inl same ↦ inr (subst (λ b. (k : ℕ) → k < b → f k ≡ x) (add-one n) (below_more (λ k. f k ≡ x) n all same))
    | inr other ↦ inl (n, omega arith, (other, all))
  ]
]

first_other : (f : ℕ → ℕ) (x n k : ℕ) → k < n → f k ≢ x → (m : ℕ) × (m < n) × IsFirstOther f x m
first_other f x n k h other = elim (first_or_none f x n) [
  | inl found ↦ found
  | inr all ↦ absurd (other (all k h))
]

module _ (junction : JunctionView) (p : PlanView) (rules : IsJunction junction) (fits : Fits junction p) where
  starts : StartsInCycle p
  starts = starts_in_cycle junction p rules fits

  some : 1 ≤ p.cycle
  some = (fits_shown junction p rules fits).cycle

  abbrev set : ℕ → ℕ
  set t = (some_set p t).0

  same_when : (t u : ℕ) → t % p.cycle ≡ u % p.cycle → set t ≡ set u
  same_when t u same = one_set p u (set t) (set u) (set_again p t u (set t) starts same (some_set p t).1) (some_set p u).1

  -- while a group is green, a conflicting one isn't
  other_group : (t i : ℕ) → t < p.cycle → GreenAt p i t → (j : ℕ) × (j < group_count junction) × (GreenAt p j t → ⊥)
  other_group t i early green =
      let hi : i < group_count junction = omega (arith, green_within p i t green, fits.groups.greens) in
      let same = rules.conflicts.same_groups in
      let (j, below, conflicting) = rules.conflicts.partnered i (omega (arith, same)) in
      let hj : j < group_count junction = omega (arith, same, below) in
      let wait = some_value (intergreen_of junction.conflicts i j) conflicting in
      (j, hj, λ shown. fits.clear i j wait.0 t hi hj wait.1 early (green, (0, omega arith, rw (add-zero t) shown)))

  -- where that one is green, the set is another
  set_differs : (t u j : ℕ) → (GreenAt p j t → ⊥) → GreenAt p j u → set u ≢ set t
  set_differs t u j not green same = not (((some_set p t).1 j).0 (subst (λ x. IsBitSet x j) same (((some_set p u).1 j).1 green)))

  -- which it is within a cycle on, and within a cycle back
  green_ahead : (u j : ℕ) → u < p.cycle → j < group_count junction → (k : ℕ) × (k < p.cycle) × GreenAt p j (u + k)
  green_ahead u j early hj =
      let k : ℕ = phase p.cycle u (start_of p j) in
      let at : phase p.cycle (start_of p j) (u + k) ≡ 0 = phase_at_gap p.cycle u (start_of p j) (omega arith) (starts j) in
      (k, phase_below p.cycle u (start_of p j) some, omega (arith, at, shown_green junction p j (fits_shown junction p rules fits) hj))

  green_behind : (t j : ℕ) → j < group_count junction → (k : ℕ) × (k < p.cycle) × GreenAt p j (t + p.cycle - k)
  green_behind t j hj =
      let k : ℕ = phase p.cycle (start_of p j) t in
      let below : k < p.cycle = phase_below p.cycle (start_of p j) t some in
      let rest : k + (p.cycle - k) ≡ p.cycle = omega arith in
      let at : phase p.cycle (start_of p j) (t + (p.cycle - k)) ≡ 0 =
      phase_on p.cycle (start_of p j) t (p.cycle - k) (starts j) ∙ ap (λ n. n % p.cycle) rest ∙ mod_self p.cycle in
      let moved : t + (p.cycle - k) ≡ t + p.cycle - k = omega arith in
      (k, below, subst (λ u. GreenAt p j u) moved (omega (arith, at, shown_green junction p j (fits_shown junction p rules fits) hj)))

  -- for b seconds back from t the set is the same, and a second earlier another
  pub record IsBack (t b : ℕ) : Type 0 where
    pub short : b < p.cycle
    pub same : (k : ℕ) → k ≤ b → set (t + p.cycle - k) ≡ set t
    pub before : set (t + p.cycle - (b + 1)) ≢ set t

  back : (t i : ℕ) → t < p.cycle → GreenAt p i t → (b : ℕ) × IsBack t b
  back t i early green =
      let (j, hj, not) = other_group t i early green in
      let (k, below, shown) = green_behind t j hj in
      let (m, less, found) = first_other (λ k. set (t + p.cycle - k)) (set t) p.cycle k below (set_differs t (t + p.cycle - k) j not shown) in
      let none : t + p.cycle - 0 ≡ t + p.cycle = omega arith in
      let here : set (t + p.cycle - 0) ≡ set t = rw none (same_when (t + p.cycle) t (add-mod_right t p.cycle)) in
      let more : 1 ≤ m = elim (cases_eq m 0) [
        | inl none_back ↦ absurd (found.0 (subst (λ k. set (t + p.cycle - k) ≡ set t) (sym none_back) here))
        | inr other ↦ omega (arith, other)
      ] in
      let again : m - 1 + 1 ≡ m = omega arith in
      (m - 1, record { short = omega (arith, less); same = λ k h. found.1 k (omega (arith, more, h)); before = rw again found.0 })

  -- for n seconds from f on the set is x, and then another
  pub record IsAhead (f x n : ℕ) : Type 0 where
    pub some : 1 ≤ n
    pub short : n < p.cycle
    pub same : (k : ℕ) → k < n → set (f + k) ≡ x
    pub after : set (f + n) ≢ x

  ahead : (t f i : ℕ) → t < p.cycle → f < p.cycle → GreenAt p i t → set f ≡ set t → (n : ℕ) × IsAhead f (set t) n
  ahead t f i early f_early green first =
      let (j, hj, not) = other_group t i early green in
      let (k, below, shown) = green_ahead f j f_early hj in
      let (n, less, found) = first_other (λ k. set (f + k)) (set t) p.cycle k below (set_differs t (f + k) j not shown) in
      let here : set (f + 0) ≡ set t = rw (add-zero f) first in
      let more : 1 ≤ n = elim (cases_eq n 0) [
        | inl none_back ↦ absurd (found.0 (subst (λ k. set (f + k) ≡ set t) (sym none_back) here))
        | inr other ↦ omega (arith, other)
      ] in
      (n, record { some = more; short = less; same = found.1; after = found.0 })

  -- the stage from the last second back on
  module _ (t b n : ℕ) (behind : IsBack t b) where
    abbrev last : ℕ
    last = t + p.cycle - b

    abbrev start : ℕ
    start = last % p.cycle

    from_start : (k : ℕ) → (start + k) % p.cycle ≡ (last + k) % p.cycle
    from_start k = mod-add-mod last p.cycle k

    start_early : start < p.cycle
    start_early = mod-lt last some

    start_set : set start ≡ set t
    start_set = same_when start last (mod-eq_of_lt start_early) ∙ behind.same b (omega arith)

    -- a second earlier
    start_before : (start + p.cycle - 1) % p.cycle ≡ (t + p.cycle - (b + 1)) % p.cycle
    start_before =
        let whole : start + p.cycle - 1 ≡ start + (p.cycle - 1) = omega (arith, some) in
        let round : last + (p.cycle - 1) ≡ (t + p.cycle - (b + 1)) + p.cycle = omega (arith, behind.short) in
        ap (λ n. n % p.cycle) whole ∙ from_start (p.cycle - 1) ∙ ap (λ n. n % p.cycle) round ∙ add-mod_right (t + p.cycle - (b + 1)) p.cycle

    long : IsAhead start (set t) n → b < n
    long on = elim (cases_lt b n) [
      | inl less ↦ less
      | inr not ↦
          let within : last + n ≡ t + p.cycle - (b - n) = omega (arith, behind.short, not) in
          absurd (on.after (same_when (start + n) (t + p.cycle - (b - n)) (from_start n ∙ ap (λ n. n % p.cycle) within) ∙ behind.same (b - n) (omega arith)))
    ]

    holds : (start + b) % p.cycle ≡ t % p.cycle
    holds =
        let whole : last + b ≡ t + p.cycle = omega (arith, behind.short) in
        from_start b ∙ ap (λ n. n % p.cycle) whole ∙ add-mod_right t p.cycle

    abbrev found : Stage
    found = record { first = start; seconds = n; groups = set t }

    is_stage : (i : ℕ) → GreenAt p i t → IsAhead start (set t) n → IsStage p found
    is_stage i green on = record {
      first = start_early;
      some = on.some;
      short = on.short;
      nonempty = λ none. none_set i (subst (λ x. IsBitSet x i) none (((some_set p t).1 i).1 green));
      same = λ k h. subst (λ x. IsGreenSet p (start + k) x) (on.same k h) (some_set p (start + k)).1;
      before = λ is. behind.before (one_set p (t + p.cycle - (b + 1)) (set (t + p.cycle - (b + 1))) (set t) (some_set p (t + p.cycle - (b + 1))).1
          (set_again p (start + p.cycle - 1) (t + p.cycle - (b + 1)) (set t) starts start_before is));
      after = λ is. on.after (one_set p (start + n) (set (start + n)) (set t) (some_set p (start + n)).1 is);
    }

  stage_early : (t i : ℕ) → t < p.cycle → GreenAt p i t → IsInOneStage p t
  stage_early t i early green =
      let (b, behind) = back t i early green in
      let (n, on) = ahead t (start t b 0 behind) i early (start_early t b 0 behind) green (start_set t b 0 behind) in
      let is = is_stage t b n behind i green on in
      let inside : LiesIn p (found t b n behind) t = (b, long t b n behind on, holds t b n behind) in
      record {
        stage = found t b n behind;
        is = is;
        holds = inside;
        only = λ other of_other lies. same_stage p starts other (found t b n behind) t of_other is lies inside;
      }

pub one_stage_law : OneStageLaw
one_stage_law junction p t i rules fits green =
    let cycle : 1 ≤ p.cycle = (fits_shown junction p rules fits).cycle in
    let early : t % p.cycle < p.cycle = mod-lt t cycle in
    let round : (t % p.cycle) % p.cycle ≡ t % p.cycle = mod-eq_of_lt early in
    let of = stage_early junction p rules fits (t % p.cycle) i early
    (green_again p i t (t % p.cycle) (starts_in_cycle junction p rules fits) (sym round) green) in
    record {
      stage = of.stage;
      is = of.is;
      holds = (of.holds.0, of.holds.1, of.holds.2 ∙ round);
      only = λ other of_other (k, h, at). of.only other of_other (k, h, at ∙ sym round);
    }
