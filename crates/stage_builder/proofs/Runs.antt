-- Seconds round the cycle, and two stages with a second in common.
use Rattle.std.proofs.Common.{ℕ, ◌≡◌, ◌+◌, ◌-◌, ◌%◌, ◌<◌, ◌≤◌, inl, inr, sym, ap, ◌∙◌, subst, arith}
use Rattle.std.proofs.Math.Nat.{mod-add-mod, add-mod_right, mod-eq_of_lt}
use Rattle.std.proofs.lemmas.Bool.{cases_order}
use Rattle.plan_model.specs.SignalPlan.{PlanView}
use Rattle.stage_builder.specs.Stages.{IsGreenSet, IsStage}
use Rattle.stage_builder.specs.StageLaws.{LiesIn}
use Rattle.stage_builder.specs.declared.stage.Stage.{Stage}
use Rattle.stage_builder.proofs.GreenSet.{StartsInCycle, one_set, set_again}

-- the rest of the cycle after d
round : (c a d : ℕ) → d ≤ c → ((a + d) % c + (c - d)) % c ≡ a % c
round c a d h =
    let whole : a + d + (c - d) ≡ a + c = omega arith in
    mod-add-mod (a + d) c (c - d) ∙ ap (λ n. n % c) whole ∙ add-mod_right a c

pub cancel : (c a b d : ℕ) → d ≤ c → (a + d) % c ≡ (b + d) % c → a % c ≡ b % c
cancel c a b d h same = sym (round c a d h) ∙ ap (λ n. (n + (c - d)) % c) same ∙ round c b d h

abbrev made : ℕ → ℕ → ℕ → Stage
made first seconds groups = record { first = first; seconds = seconds; groups = groups }

module _ (p : PlanView) (starts : StartsInCycle p) where
  -- else a stage would have begun a second before its first one
  not_later : (s r : Stage) (k l : ℕ) → IsStage p s → IsStage p r → s.groups ≡ r.groups → k < s.seconds → l < r.seconds →
      (s.first + k) % p.cycle ≡ (r.first + l) % p.cycle → k < l → ⊥
  not_later s r k l of_s of_r same hk hl at less =
      let d : ℕ = k + 1 in
      let there : r.first + (l - d) + d ≡ r.first + l = omega arith in
      let here : (s.first + p.cycle - 1) + d ≡ (s.first + k) + p.cycle = omega (arith, of_s.short) in
      let moved : (r.first + (l - d) + d) % p.cycle ≡ ((s.first + p.cycle - 1) + d) % p.cycle =
      ap (λ n. n % p.cycle) there ∙ sym at ∙ sym (add-mod_right (s.first + k) p.cycle) ∙ ap (λ n. n % p.cycle) (sym here) in
      let before : (r.first + (l - d)) % p.cycle ≡ (s.first + p.cycle - 1) % p.cycle =
      cancel p.cycle (r.first + (l - d)) (s.first + p.cycle - 1) d (omega (arith, of_s.short)) moved in
      of_s.before (set_again p (r.first + (l - d)) (s.first + p.cycle - 1) s.groups starts before
      (subst (λ g. IsGreenSet p (r.first + (l - d)) g) (sym same) (of_r.same (l - d) (omega arith))))

  -- else it would have ended
  not_longer : (s r : Stage) → IsStage p s → IsStage p r → s.groups ≡ r.groups → s.first ≡ r.first → s.seconds < r.seconds → ⊥
  not_longer s r of_s of_r same first less =
      of_s.after (subst (λ g. IsGreenSet p (s.first + s.seconds) g) (sym same)
      (subst (λ f. IsGreenSet p (f + s.seconds) r.groups) (sym first) (of_r.same s.seconds less)))

  same_from_first : (s r : Stage) → IsStage p s → IsStage p r → s.groups ≡ r.groups → s.first ≡ r.first → s ≡ r
  same_from_first s r of_s of_r same first =
      let seconds : s.seconds ≡ r.seconds = elim (cases_order s.seconds r.seconds) [
        | inl one ↦ one
        | inr (inl less) ↦ absurd (not_longer s r of_s of_r same first less)
        | inr (inr more) ↦ absurd (not_longer r s of_r of_s (sym same) (sym first) more)
      ] in
      ap (λ n. made n s.seconds s.groups) first ∙ ap (λ n. made r.first n s.groups) seconds ∙ ap (made r.first r.seconds) same

  -- the groups of a stage are those of each of its seconds
  groups_at : (s : Stage) (t : ℕ) → IsStage p s → LiesIn p s t → IsGreenSet p t s.groups
  groups_at s t of (k, within, at) = set_again p (s.first + k) t s.groups starts at (of.same k within)

  pub same_stage : (s r : Stage) (t : ℕ) → IsStage p s → IsStage p r → LiesIn p s t → LiesIn p r t → s ≡ r
  same_stage s r t of_s of_r (k, hk, at) (l, hl, other) =
      let same : s.groups ≡ r.groups = one_set p t s.groups r.groups (groups_at s t of_s (k, hk, at)) (groups_at r t of_r (l, hl, other)) in
      let both : (s.first + k) % p.cycle ≡ (r.first + l) % p.cycle = at ∙ sym other in
      elim (cases_order k l) [
        | inl one ↦
            let moved : (s.first + k) % p.cycle ≡ (r.first + k) % p.cycle = both ∙ ap (λ n. (r.first + n) % p.cycle) (sym one) in
            let first : s.first % p.cycle ≡ r.first % p.cycle = cancel p.cycle s.first r.first k (omega (arith, hk, of_s.short)) moved in
            same_from_first s r of_s of_r same (sym (mod-eq_of_lt of_s.first) ∙ first ∙ mod-eq_of_lt of_r.first)
        | inr (inl less) ↦ absurd (not_later s r k l of_s of_r same hk hl both less)
        | inr (inr more) ↦ absurd (not_later r s l k of_r of_s (sym same) hl hk (sym both) more)
      ]
