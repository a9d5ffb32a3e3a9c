-- The rules of a certificate's plan, and the order of the rules that speak of the whole certificate.
use Rattle.std.proofs.Common.{ℕ, ◌≡◌, ◌≢◌, ◌*◌, ◌≤◌, inl, inr, refl, sym, ◌∙◌, arith}
use Rattle.std.specs.Prelude.{Option, None, Some, IfSome, IsSomeAnd}
use Rattle.std.proofs.lemmas.Bool.{cases_lt}
use Rattle.sig_base.specs.Fraction.{Fraction, IsAtMost, IsBelow}
use Rattle.sig_base.specs.Ratio.{fraction_of}
use Rattle.sig_base.specs.declared.ratio.Ratio.{Ratio}
use Rattle.sig_base.proofs.Fraction.{at_most_trans}
use Rattle.junction_model.specs.Junction.{JunctionView}
use Rattle.plan_model.specs.SignalPlan.{PlanView}
use Rattle.plan_model.specs.Fits.{Fits}
use Rattle.plan_model.specs.FirstFault.{IsFirstFault, FaultLaw}
use Rattle.plan_model.specs.Multiplier.{Meets}
use Rattle.plan_model.specs.Claims.{IsPlanMultiplier}
use Rattle.plan_model.specs.declared.fault.PlanFault.{PlanFault}
use Rattle.plan_certificate.specs.Certificate.{CertificateView}
use Rattle.plan_certificate.specs.declared.claim.Claim.{Claim}
use Rattle.plan_certificate.specs.declared.claim.Claim.TheVariants.{Capacity, Cycle, Infeasible, Stopped}
use Rattle.certificate_checker.specs.CertificateRules.{LacksItsPlan, BreaksRule, IsNowhere, IsFirstOfAll, turn_of}
use Rattle.certificate_checker.specs.ClaimTrees.{IsMultipleFor, IsMultipleOf}
use Rattle.certificate_checker.specs.PlanRules.{HasItsPlan}
use Rattle.certificate_checker.specs.Rules.{rule_number}
use Rattle.certificate_checker.specs.declared.rule.Rule.{Rule}
use Rattle.certificate_checker.specs.declared.rule.Rule.TheVariants as rule

turn_number : (own : Rule) → turn_of own ≢ 5 → turn_of own ≡ rule_number own
turn_number rule.Plan h = refl
turn_number (rule.Fit fault) h = refl
turn_number rule.Least h = refl
turn_number rule.Cycles h = refl
turn_number rule.Tree h = absurd (h refl)
turn_number rule.Pair h = absurd (h refl)
turn_number rule.Unvisited h = absurd (h refl)
turn_number rule.Edge h = absurd (h refl)
turn_number rule.Sum h = absurd (h refl)
turn_number rule.Budget h = refl

told_nowhere : (junction : JunctionView) (c : CertificateView) (own : Rule) (cycle place : ℕ) → turn_of own ≢ 5 → BreaksRule junction c own cycle place → IsNowhere cycle place
told_nowhere junction c rule.Plan cycle place h b = b.1
told_nowhere junction c (rule.Fit fault) cycle place h b = b.1
told_nowhere junction c rule.Least cycle place h b = b.1
told_nowhere junction c rule.Cycles cycle place h b = b.1
told_nowhere junction c rule.Tree cycle place h b = absurd (h refl)
told_nowhere junction c rule.Pair cycle place h b = absurd (h refl)
told_nowhere junction c rule.Unvisited cycle place h b = absurd (h refl)
told_nowhere junction c rule.Edge cycle place h b = absurd (h refl)
told_nowhere junction c rule.Sum cycle place h b = absurd (h refl)
told_nowhere junction c rule.Budget cycle place h b = b.1

-- a rule of the whole certificate is the first one where no rule of an earlier turn is broken
pub whole_first : (junction : JunctionView) (c : CertificateView) (own : Rule) → turn_of own ≢ 5 → BreaksRule junction c own 0 0 →
    ((other : Rule) (cycle place : ℕ) → BreaksRule junction c other cycle place → turn_of own ≤ turn_of other) → IsFirstOfAll junction c own 0 0
whole_first junction c own whole broken later = record {
  breaks = broken;
  first = λ other cycle place b. elim (cases_lt (turn_of own) (turn_of other)) [
    | inl w ↦ inl w
    | inr w ↦ (
        let same : turn_of own ≡ turn_of other = omega (arith, later other cycle place b) in
        let other_whole : turn_of other ≢ 5 = λ e. whole (same ∙ e) in
        let nowhere = told_nowhere junction c other cycle place other_whole b in
        inr (same, inr (sym nowhere.0, inr (sym nowhere.1, omega (arith, same, turn_number own whole, turn_number other other_whole)))))
  ];
}

-- the turn of every broken rule, where those of the plan stand one after another
module _ (junction : JunctionView) (c : CertificateView) where
  no_fault : FaultLaw → (fault : PlanFault) (o : Option PlanView) → IfSome o (Fits junction) → IsSomeAnd o (λ p. IsFirstFault junction p fault) → ⊥
  no_fault law fault None fits h = absurd h
  no_fault law fault (Some p) fits h = law junction p fault fits h

  pub from_third : FaultLaw → ¬ LacksItsPlan c.claim c.plan → IfSome c.plan (Fits junction) →
      (other : Rule) (cycle place : ℕ) → BreaksRule junction c other cycle place → 3 ≤ turn_of other
  from_third law stated fits rule.Plan cycle place b = absurd (stated b.0)
  from_third law stated fits (rule.Fit fault) cycle place b = absurd (no_fault law fault c.plan fits b.0)
  from_third law stated fits rule.Least cycle place b = omega arith
  from_third law stated fits rule.Cycles cycle place b = omega arith
  from_third law stated fits rule.Tree cycle place b = omega arith
  from_third law stated fits rule.Pair cycle place b = omega arith
  from_third law stated fits rule.Unvisited cycle place b = omega arith
  from_third law stated fits rule.Edge cycle place b = omega arith
  from_third law stated fits rule.Sum cycle place b = omega arith
  from_third law stated fits rule.Budget cycle place b = omega arith

  module _ (p : PlanView) (is : c.plan ≡ Some p) (stated : ¬ LacksItsPlan c.claim c.plan) where
    pub least_first : FaultLaw → (multiplier : Fraction) → Fits junction p → IsPlanMultiplier junction p multiplier → IsBelow multiplier c.least →
        IsFirstOfAll junction c rule.Least 0 0
    least_first law multiplier fits of_plan below =
        whole_first junction c rule.Least (λ e. omega (arith, e)) (rw is (record { multiplier = multiplier; of_plan = of_plan; below = below }), (refl, refl))
        (from_third law stated (rw is fits))

    meets_least : (multiplier : Fraction) → Fits junction p → IsPlanMultiplier junction p multiplier → ¬ IsBelow multiplier c.least → Meets junction p c.least
    meets_least multiplier fits of_plan below =
        let least : IsAtMost c.least multiplier = elim (cases_lt (multiplier.num * c.least.den) (c.least.num * multiplier.den)) [ inl less ↦ absurd (below less) | inr not ↦ not ] in
        record { fits = fits; reaches = λ k own found. at_most_trans c.least multiplier own of_plan.positive least (of_plan.least k own found) }

    pub has_its_plan : (multiplier : Fraction) (multiple : Ratio) → Fits junction p → IsPlanMultiplier junction p multiplier → ¬ IsBelow multiplier c.least →
        IsMultipleOf junction c multiple → HasItsPlan junction c multiple
    has_its_plan multiplier multiple fits of_plan below multiple_is = record {
      stated = stated;
      meets = rw is (meets_least multiplier fits of_plan below);
      is = multiple_is;
    }
