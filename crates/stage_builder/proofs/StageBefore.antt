-- The stages so far, with one first second more.
use Rattle.std.proofs.Common.{ℕ, List, [], ◌∷◌, ◌++◌, ◌≡◌, ◌≢◌, ◌+◌, ◌%◌, ◌<◌, inl, inr, ap, ◌∙◌, subst, arith, All, Contains, add-zero}
use Rattle.std.proofs.lemmas.Bool.{cases_eq}
use Rattle.std.proofs.lemmas.List.Elements.{All-push, All-weaker, All-get_or, Contains-push, Contains-append_left}
use Rattle.std.proofs.lemmas.List.Quantifiers.{all_pairs_push}
use Rattle.plan_model.specs.SignalPlan.{PlanView}
use Rattle.stage_builder.specs.Stages.{IsStage, AreStages}
use Rattle.stage_builder.specs.SoFar.{AreStagesBefore}
use Rattle.stage_builder.specs.declared.stage.Stage.{Stage}
use Rattle.stage_builder.proofs.GreenSet.{StartsInCycle}
use Rattle.stage_builder.proofs.Runs.{same_stage}

abbrev IsStageBefore : PlanView → ℕ → Stage → Type 0
IsStageBefore p n s = IsStage p s × (s.first < n)

module _ (p : PlanView) (n : ℕ) (stages : List Stage) (before : AreStagesBefore p n stages) where
  each_before : All (IsStageBefore p (n + 1)) stages
  each_before = All-weaker (IsStageBefore p n) (IsStageBefore p (n + 1)) (λ s of. (of.0, omega (arith, of.1))) stages before.each

  pub skip_second : ((s : Stage) → IsStage p s → s.first ≢ n) → AreStagesBefore p (n + 1) stages
  skip_second none = record {
    each = each_before;
    all = λ s of h. before.all s of (omega (arith, h, none s of));
    rising = before.rising;
  }

  pub push_stage : (s : Stage) → StartsInCycle p → IsStage p s → s.first ≡ n → AreStagesBefore p (n + 1) (stages ++ s ∷ [])
  push_stage s starts of first = record {
    each = All-push (IsStageBefore p (n + 1)) stages s each_before (of, omega (arith, first));
    all = λ r of_r h. elim (cases_eq r.first n) [
      | inl same ↦
          let here : (s.first + 0) % p.cycle ≡ n % p.cycle = ap (λ k. k % p.cycle) (add-zero s.first ∙ first) in
          let there : (r.first + 0) % p.cycle ≡ n % p.cycle = ap (λ k. k % p.cycle) (add-zero r.first ∙ same) in
          let one : s ≡ r = same_stage p starts s r n of of_r (0, of.some, here) (0, of_r.some, there) in
          subst (λ x. Contains (stages ++ s ∷ []) x) one (Contains-push stages s)
      | inr other ↦ Contains-append_left stages (s ∷ []) r (before.all r of_r (omega (arith, h, other)))
    ];
    rising = all_pairs_push (λ (a b : Stage). a.first < b.first) stages s before.rising (λ k d h.
        let early = All-get_or (IsStageBefore p n) stages k d h before.each in omega (arith, first, early.1));
  }

pub all_stages : (p : PlanView) (n : ℕ) (stages : List Stage) → n ≡ p.cycle → AreStagesBefore p n stages → AreStages p stages
all_stages p n stages all before = record {
  each = All-weaker (IsStageBefore p n) (IsStage p) (λ s of. of.0) stages before.each;
  all = λ s of. before.all s of (omega (arith, all, of.first));
  rising = before.rising;
}
