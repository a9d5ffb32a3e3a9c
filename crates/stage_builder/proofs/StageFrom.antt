-- Whether a stage begins at a second.
use Rattle.std.proofs.Common.{ℕ, ◌≡◌, ◌≢◌, ◌+◌, ◌-◌, ◌<◌, inl, inr, sym, ◌∙◌, subst, arith, add-zero}
use Rattle.std.proofs.lemmas.Bool.{cases_eq}
use Rattle.plan_model.specs.SignalPlan.{PlanView}
use Rattle.stage_builder.specs.Stages.{IsGreenSet, IsStage}
use Rattle.stage_builder.specs.SoFar.{IsRun}
use Rattle.stage_builder.specs.declared.stage.Stage.{Stage}
use Rattle.stage_builder.proofs.GreenSet.{one_set}

module _ (p : PlanView) (start set : ℕ) (is : IsGreenSet p start set) where
  first_groups : (s : Stage) → IsStage p s → s.first ≡ start → s.groups ≡ set
  first_groups s of at =
      one_set p start s.groups set (subst (λ t. IsGreenSet p t s.groups) (add-zero s.first ∙ at) (of.same 0 of.some)) is

  pub none_from_no_group : set ≡ 0 → (s : Stage) → IsStage p s → s.first ≢ start
  none_from_no_group none s of at = of.nonempty (first_groups s of at ∙ none)

  pub none_from_within : IsGreenSet p (start + p.cycle - 1) set → (s : Stage) → IsStage p s → s.first ≢ start
  none_from_within before s of at =
      of.before (subst (λ t. IsGreenSet p (t + p.cycle - 1) s.groups) (sym at)
      (subst (λ x. IsGreenSet p (start + p.cycle - 1) x) (sym (first_groups s of at)) before))

  pub stage_from_run : (seconds : ℕ) → start < p.cycle → set ≢ 0 → (IsGreenSet p (start + p.cycle - 1) set → ⊥) → IsRun p start set seconds →
      IsStage p (record { first = start; seconds = seconds; groups = set })
  stage_from_run seconds early some before run = record {
    first = early;
    some = elim (cases_eq seconds 0) [
      | inl none ↦ absurd (run.after (subst (λ n. IsGreenSet p (start + n) set) (sym none) (subst (λ t. IsGreenSet p t set) (sym (add-zero start)) is)))
      | inr more ↦ omega (arith, more)
    ];
    short = run.short;
    nonempty = some;
    same = run.same;
    before = before;
    after = run.after;
  }
