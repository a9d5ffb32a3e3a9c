-- What the join over the cycles comes to.
use Rattle.std.specs.Prelude.{ℕ, List, [], ◌∷◌, ◌++◌, Option, None, Some, ◌≡◌, ◌+◌, ◌<◌, ◌≤◌, IfSome}
use Rattle.sig_base.specs.Ratio.{fraction_of}
use Rattle.sig_base.specs.declared.ratio.Ratio.{Ratio}
use Rattle.constraint_cycles.specs.Tree.{visited_count}
use Rattle.constraint_cycles.specs.declared.node.Node.{Node}
use Rattle.junction_model.specs.Covers.{cover_of}
use Rattle.junction_model.specs.Junction.{JunctionView}
use Rattle.junction_model.specs.Rules.{IsJunction}
use Rattle.plan_model.specs.Claims.{IsPlanMultiplier, IsCapacityOptimal, IsCycleOptimal, IsInfeasible}
use Rattle.plan_model.specs.FittedPlan.{fitted_plan_of}
use Rattle.plan_model.specs.SignalPlan.{PlanView}
use Rattle.plan_model.specs.declared.fitted_plan.FittedPlan.{FittedPlan}
use Rattle.cycle_orders.specs.Answer.{IsEnded, IsStopped, IsFirstPlan, plan_in}
use Rattle.cycle_orders.specs.Forest.{IsClosedBeside, IsShortest, IsExhausted, IsStoppedAt, visited_in}
use Rattle.cycle_orders.specs.Joined.{IsJoined, next_search}
use Rattle.cycle_orders.specs.JunctionAnswer.{IsPlanOf}
use Rattle.cycle_orders.specs.declared.answer.Mode.{Mode}

-- before the first cycle
abbrev pub BegunLaw : Type 0
BegunLaw = (junction : JunctionView) (least : Ratio) → IsJunction junction → IsJoined junction least None least junction.least_cycle []

-- a search within the limits goes on from what is joined
pub record IsNext (junction : JunctionView) (least : Ratio) (plan : Option PlanView) (multiple : Ratio) (cycle : ℕ) (forest : List (List Node)) : Type 0 where
  pub joined : IsJoined junction least plan multiple cycle forest
  pub within : cycle ≤ junction.greatest_cycle

-- where the next search ends without a plan, its tree is joined and the best plan stays
abbrev pub NoPlanLaw : Type 0
NoPlanLaw = (junction : JunctionView) (least : Ratio) (plan : Option PlanView) (multiple : Ratio) (cycle : ℕ) (forest : List (List Node)) (mode : Mode)
    (nodes : List Node) → IsNext junction least plan multiple cycle forest → IsEnded (next_search junction plan multiple cycle mode) nodes None →
    IsJoined junction least plan multiple (cycle + 1) (forest ++ nodes ∷ [])

-- where it ends with a plan, that is the best one from then on
abbrev pub BetterPlanLaw : Type 0
BetterPlanLaw = (junction : JunctionView) (least : Ratio) (plan : Option PlanView) (multiple : Ratio) (cycle : ℕ) (forest : List (List Node)) (mode : Mode)
    (nodes : List Node) (f : FittedPlan) (own : Ratio) → IsNext junction least plan multiple cycle forest →
    IsEnded (next_search junction plan multiple cycle mode) nodes (Some f) → IsPlanMultiplier junction (fitted_plan_of f) (fraction_of own) →
    IsPlanOf junction least f × IsJoined junction least (Some (fitted_plan_of f)) own (cycle + 1) (forest ++ nodes ∷ [])

-- the later plan, or the earlier one where there is none
abbrev pub later_plan : Option PlanView → Option PlanView → Option PlanView
later_plan plan None = plan
later_plan plan (Some p) = Some p

-- where it is stopped with its budget, so is the whole, and the budget doesn't cover the junction
abbrev pub StoppedLaw : Type 0
StoppedLaw = (junction : JunctionView) (least : Ratio) (plan : Option PlanView) (multiple : Ratio) (cycle : ℕ) (forest : List (List Node)) (mode : Mode)
    (nodes : List Node) (found : Option FittedPlan) (budget : ℕ) → IsNext junction least plan multiple cycle forest →
    IsStopped (next_search junction plan multiple cycle mode) nodes found → visited_in forest + visited_count nodes ≡ budget →
    IsStoppedAt junction least budget (later_plan plan (plan_in found)) (forest ++ nodes ∷ []) × (budget < cover_of junction) × IfSome found (IsPlanOf junction least)

-- behind the greatest cycle the best plan is the best of all, and each cycle is closed beside it
abbrev pub GreatestLaw : Type 0
GreatestLaw = (junction : JunctionView) (least : Ratio) (p : PlanView) (multiple : Ratio) (forest : List (List Node)) →
    IsJoined junction least (Some p) multiple (junction.greatest_cycle + 1) forest →
    IsCapacityOptimal junction (fraction_of least) p × IsClosedBeside junction least p multiple forest

-- and where there is none, no plan meets the least
abbrev pub ExhaustedLaw : Type 0
ExhaustedLaw = (junction : JunctionView) (least : Ratio) (multiple : Ratio) (forest : List (List Node)) →
    IsJoined junction least None multiple (junction.greatest_cycle + 1) forest →
    IsInfeasible junction (fraction_of least) × IsExhausted junction least forest

-- the first plan of all cycles is one of the shortest
abbrev pub ShortestLaw : Type 0
ShortestLaw = (junction : JunctionView) (least : Ratio) (multiple : Ratio) (cycle : ℕ) (forest : List (List Node)) (mode : Mode)
    (nodes : List Node) (f : FittedPlan) → IsNext junction least None multiple cycle forest → IsFirstPlan (next_search junction None multiple cycle mode) nodes f →
    IsPlanOf junction least f × IsCycleOptimal junction (fraction_of least) (fitted_plan_of f) × IsShortest junction least (fitted_plan_of f) forest
