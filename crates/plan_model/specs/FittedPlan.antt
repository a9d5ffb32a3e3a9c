-- What contracts see of a plan that fits.
use Rattle.std.specs.Prelude.{Result, ◌≡◌, MatchResult}
use Rattle.junction_model.specs.Junction.{JunctionView}
use Rattle.plan_model.specs.SignalPlan.{PlanView}
use Rattle.plan_model.specs.FirstFault.{IsFirstFault}
use Rattle.plan_model.specs.Plan.{plan_of}
use Rattle.plan_model.specs.Rotation.{IsAsGood}
use Rattle.plan_model.specs.declared.fault.PlanFault.{PlanFault}
use Rattle.plan_model.specs.declared.fitted_plan.FittedPlan.{FittedPlan}

abbrev pub junction_of : FittedPlan → JunctionView
junction_of f = f.junction.now

abbrev pub fitted_plan_of : FittedPlan → PlanView
fitted_plan_of f = plan_of f.plan

-- the plan beside its junction, or its first fault
abbrev pub FittedOrFirstFault : JunctionView → PlanView → Result FittedPlan PlanFault → Type 0
FittedOrFirstFault junction p answer =
    MatchResult answer (λ f. (junction_of f ≡ junction) × (fitted_plan_of f ≡ p)) (IsFirstFault junction p)

-- at the junction of the first plan the second one is as good
abbrev pub IsFittedAsGood : FittedPlan → FittedPlan → Type 0
IsFittedAsGood f g = IsAsGood (junction_of f) (fitted_plan_of f) (fitted_plan_of g)
