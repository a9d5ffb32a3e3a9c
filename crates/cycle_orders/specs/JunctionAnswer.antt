-- What an answer over all cycles of a junction means.
use Rattle.std.specs.Prelude.{ℕ, List, Option, None, Some, ◌≡◌, ◌≤◌, ⊤}
use Rattle.sig_base.specs.declared.ratio.Ratio.{Ratio}
use Rattle.constraint_cycles.specs.Forest.{visited_in}
use Rattle.constraint_cycles.specs.declared.node.Node.{Node}
use Rattle.junction_model.specs.Junction.{JunctionView}
use Rattle.plan_model.specs.FittedPlan.{junction_of, fitted_plan_of}
use Rattle.plan_model.specs.SignalPlan.{PlanView}
use Rattle.plan_model.specs.declared.fitted_plan.FittedPlan.{FittedPlan}
use Rattle.cycle_orders.specs.Answer.{plan_in}
use Rattle.cycle_orders.specs.Joined.{IsAsked}
use Rattle.cycle_orders.specs.declared.junction_answer.Answer.{Answer}
use Rattle.cycle_orders.specs.declared.junction_answer.Answer.TheVariants.{Optimal, Infeasible, Stopped}

-- P holds of the plan and the forest of an optimal answer
abbrev pub IfOptimal : Answer → (PlanView → List (List Node) → Type 0) → Type 0
IfOptimal (Optimal f forest) P = P (fitted_plan_of f) forest
IfOptimal (Infeasible forest) P = ⊤
IfOptimal (Stopped plan forest) P = ⊤

-- P holds of the forest of an answer that there is no plan
abbrev pub IfInfeasible : Answer → (List (List Node) → Type 0) → Type 0
IfInfeasible (Optimal f forest) P = ⊤
IfInfeasible (Infeasible forest) P = P forest
IfInfeasible (Stopped plan forest) P = ⊤

-- P holds of the plan, if any, and the forest of a stopped search
abbrev pub IfStopped : Answer → (Option PlanView → List (List Node) → Type 0) → Type 0
IfStopped (Optimal f forest) P = ⊤
IfStopped (Infeasible forest) P = ⊤
IfStopped (Stopped plan forest) P = P (plan_in plan) forest

-- the trees of an answer
abbrev pub forest_of : Answer → List (List Node)
forest_of (Optimal f forest) = forest
forest_of (Infeasible forest) = forest
forest_of (Stopped plan forest) = forest

-- as many nodes as the budget were visited, or fewer
abbrev pub IsWithinBudget : ℕ → Answer → Type 0
IsWithinBudget budget answer = visited_in (forest_of answer) ≤ budget

abbrev pub IsNoPlan : Answer → Type 0
IsNoPlan (Optimal f forest) = ⊥
IsNoPlan (Infeasible forest) = ⊤
IsNoPlan (Stopped plan forest) = ⊥

abbrev pub IsStop : Answer → Type 0
IsStop (Optimal f forest) = ⊥
IsStop (Infeasible forest) = ⊥
IsStop (Stopped plan forest) = ⊤

-- the plan that an answer carries, if any
abbrev pub carried_by : Answer → Option FittedPlan
carried_by (Optimal f forest) = Some f
carried_by (Infeasible forest) = None
carried_by (Stopped plan forest) = plan

-- a plan of the junction that meets the least and begins with group 0
pub record IsPlanOf (junction : JunctionView) (least : Ratio) (f : FittedPlan) : Type 0 where
  pub own : junction_of f ≡ junction
  pub asked : IsAsked junction least (fitted_plan_of f)

-- where the answer is that of a stopped search, it carries no plan
abbrev pub CarriesNoPlan : Answer → Type 0
CarriesNoPlan (Optimal f forest) = ⊤
CarriesNoPlan (Infeasible forest) = ⊤
CarriesNoPlan (Stopped plan forest) = plan ≡ None
