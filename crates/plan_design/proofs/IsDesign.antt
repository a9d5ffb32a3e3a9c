-- The designs that the answers of a search make.
use Rattle.std.proofs.Common.{ℕ, List, ◌≡◌, ◌≢◌, ◌≤◌, ◌<◌, inl, inr, refl, ap, subst, ◌∙◌, slice_index}
use Rattle.std.specs.Prelude.{Option, None, Some, IfSome, option_map}
use Rattle.sig_base.specs.Ratio.{fraction_of}
use Rattle.sig_base.specs.declared.ratio.Ratio.{Ratio}
use Rattle.constraint_cycles.specs.declared.node.Node.{Node}
use Rattle.junction_model.specs.Covers.{cover_of}
use Rattle.junction_model.specs.Junction.{JunctionView}
use Rattle.junction_model.specs.Rules.{IsJunction}
use Rattle.plan_model.specs.FittedPlan.{junction_of, fitted_plan_of}
use Rattle.plan_model.specs.SignalPlan.{PlanView}
use Rattle.plan_model.specs.declared.fitted_plan.FittedPlan.{FittedPlan}
use Rattle.cycle_orders.specs.Answer.{plan_in}
use Rattle.cycle_orders.specs.Forest.{IsExhausted, IsPassedAmong, IsStoppedAt, visited_in}
use Rattle.cycle_orders.specs.JunctionAnswer.{IsPlanOf}
use Rattle.plan_certificate.specs.Ranges.{IsLeast}
use Rattle.plan_certificate.specs.declared.claim.Claim.{Claim}
use Rattle.plan_certificate.specs.declared.claim.Claim.TheVariants as claim
use Rattle.plan_design.specs.Design.{IsDesign, IsDesignedPlan, IsClaimFor, IsShown, claim_of}
use Rattle.plan_design.specs.DesignLaws.{IsBest, IsStretchTo, AreStretched, IsStretchOfAsked, IsStretchOfAny, certified, GreatestShownLaw, ShortestShownLaw, ExhaustedShownLaw, StoppedShownLaw, ShownRangeLaw, StoppedRangeLaw}
use Rattle.plan_design.specs.declared.objective.Objective.{Objective}
use Rattle.plan_design.specs.declared.objective.Objective.TheVariants.{Capacity, Cycle}

not_stopped : (own : Objective) → claim_of own ≢ claim.Stopped
not_stopped Capacity e = cc
not_stopped Cycle e = cc

module _ (junction : JunctionView) (rules : IsJunction junction) (least : Ratio) (in_range : IsLeast (fraction_of least)) (budget : ℕ) (some : 1 ≤ budget) where
  designed_plan : (p q : PlanView) → IsStretchOfAsked junction least p q → IsDesignedPlan junction q
  designed_plan p q stretch = record {
    first = ap (λ starts. slice_index starts 0) stretch.stretch.of.starts ∙ stretch.asked.first;
    stretched = stretch.stretch.stretched;
  }

  designed_any : (plan stretched : Option PlanView) → IsStretchOfAny junction least plan stretched → IfSome stretched (IsDesignedPlan junction)
  designed_any None None any = tt
  designed_any None (Some q) any = absurd any
  designed_any (Some p) None any = absurd any
  designed_any (Some p) (Some q) any = designed_plan p q any

  shown_design : ShownRangeLaw → (objective : Objective) (own : Claim) (plan : Option PlanView) (forest : List (List Node)) → own ≢ claim.Stopped → IsClaimFor objective own →
      visited_in forest ≤ budget → IfSome plan (IsDesignedPlan junction) → IsShown junction least (certified least budget own plan forest) → IsDesign junction objective least budget (certified least budget own plan forest)
  shown_design ranges objective own plan forest going claimed within designed shown = record {
    least_is = refl;
    budget_is = refl;
    within = within;
    range = ranges junction (certified least budget own plan forest) rules in_range some shown.proves;
    plan = designed;
    claimed = claimed;
    shown = λ other. shown;
    stopped = λ stop. absurd (going stop);
    passed = λ stop. absurd (going stop);
    uncovered = λ stop. absurd (going stop);
    planless = λ cycle stop. absurd (going stop);
  }

  best_shown : GreatestShownLaw → ShortestShownLaw → (own : Objective) (p q : PlanView) (forest : List (List Node)) → IsStretchOfAsked junction least p q →
      IsBest own junction least p forest → IsShown junction least (certified least budget (claim_of own) (Some q) forest)
  best_shown greatest shortest Capacity p q forest stretch best = greatest junction least budget p q forest rules stretch best
  best_shown greatest shortest Cycle p q forest stretch best = shortest junction least budget p q forest rules stretch best

  pub best_design : GreatestShownLaw → ShortestShownLaw → ShownRangeLaw → (own : Objective) (f g : FittedPlan) (forest : List (List Node)) → IsPlanOf junction least f →
      IsStretchTo junction (fitted_plan_of f) (fitted_plan_of g) → IsBest own junction least (fitted_plan_of f) forest → visited_in forest ≤ budget →
      IsDesign junction own least budget (certified least budget (claim_of own) (Some (fitted_plan_of g)) forest)
  best_design greatest shortest ranges own f g forest asked stretch best within =
      let both : IsStretchOfAsked junction least (fitted_plan_of f) (fitted_plan_of g) = record { asked = asked.asked; stretch = stretch } in
      shown_design ranges own (claim_of own) (Some (fitted_plan_of g)) forest (not_stopped own) (inl refl) within (designed_plan (fitted_plan_of f) (fitted_plan_of g) both)
      (best_shown greatest shortest own (fitted_plan_of f) (fitted_plan_of g) forest both best)

  pub infeasible_design : ExhaustedShownLaw → ShownRangeLaw → (own : Objective) (forest : List (List Node)) → IsExhausted junction least forest → visited_in forest ≤ budget →
      IsDesign junction own least budget (certified least budget claim.Infeasible None forest)
  infeasible_design law ranges own forest exhausted within =
      shown_design ranges own claim.Infeasible None forest (λ e. cc) (inr (inl refl)) within tt (law junction least budget forest rules exhausted)

  pub stopped_design : StoppedShownLaw → StoppedRangeLaw → (own : Objective) (plan stretched : Option PlanView) (forest : List (List Node)) →
      IsStretchOfAny junction least plan stretched → IsStoppedAt junction least budget plan forest → visited_in forest ≤ budget → IfSome stretched (IsPassedAmong junction forest) → budget < cover_of junction → (own ≡ Cycle → stretched ≡ None) →
      IsDesign junction own least budget (certified least budget claim.Stopped stretched forest)
  stopped_design law ranges own plan stretched forest any stopped within passed uncovered without =
      let stop = law junction least budget plan stretched forest rules any stopped in record {
        least_is = refl;
        budget_is = refl;
        within = within;
        range = ranges junction least budget (certified least budget claim.Stopped stretched forest) rules in_range some stop;
        plan = designed_any plan stretched any;
        claimed = inr (inr refl);
        shown = λ going. absurd (going refl);
        stopped = λ e. stop;
        passed = λ e. passed;
        uncovered = λ e. uncovered;
        planless = λ cycle e. without cycle;
      }

-- the plan of a stopped search, if any, and its stretch
module _ (junction : JunctionView) (least : Ratio) where
  pub any_of : (plan stretched : Option FittedPlan) → IfSome plan (IsPlanOf junction least) → AreStretched plan stretched →
      IsStretchOfAny junction least (plan_in plan) (option_map fitted_plan_of stretched)
  any_of None None asked are = tt
  any_of None (Some g) asked are = absurd are
  any_of (Some f) None asked are = absurd are
  any_of (Some f) (Some g) asked are =
      record { asked = asked.asked; stretch = subst (λ own. IsStretchTo own (fitted_plan_of f) (fitted_plan_of g)) asked.own are.1 }

  pub junction_kept : (plan stretched : Option FittedPlan) → IfSome plan (IsPlanOf junction least) → AreStretched plan stretched →
      IfSome stretched (λ g. junction_of g ≡ junction)
  junction_kept None None asked are = tt
  junction_kept None (Some g) asked are = absurd are
  junction_kept (Some f) None asked are = absurd are
  junction_kept (Some f) (Some g) asked are = are.0 ∙ asked.own

pub none_stretched : (plan stretched : Option FittedPlan) → AreStretched plan stretched → plan ≡ None → option_map fitted_plan_of stretched ≡ None
none_stretched None None are without = refl
none_stretched None (Some g) are without = absurd are
none_stretched (Some f) None are without = absurd are
none_stretched (Some f) (Some g) are without = cc
