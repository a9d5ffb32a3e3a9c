-- The data of an answer has no float.
use Rattle.std.proofs.Common.{◌≡◌, false, List, ℕ, [], ◌∷◌, map, refl, Some}
use Rattle.std.specs.Prelude.{codes}
use Rattle.serde_json.specs.Data.{object, member, no_members, null}
use Rattle.serde_json.specs.View.{items_of}
use Rattle.serde_json.specs.Written.{has_float, items_have_float}
use Rattle.constraint_cycles.specs.declared.node.Node.{Node}
use Rattle.plan_model.specs.SignalPlan.{PlanView}
use Rattle.plan_certificate.specs.Contents.{list, whole, forest_data, wholes}
use Rattle.plan_certificate.specs.Text.{plan_data}
use Rattle.plan_certificate.proofs.NoFloat.{wholes_exact, trees_exact, plan_exact}
use Rattle.bottleneck_lanes.specs.Critical.{members}
use Rattle.bottleneck_lanes.specs.Text.{answer_data}
use Rattle.bottleneck_lanes.specs.declared.answer.BottleAnswer.{BottleAnswer}
use Rattle.bottleneck_lanes.specs.declared.answer.BottleAnswer.TheVariants.{Found, Stopped}

plans_exact : (plans : List PlanView) → items_have_float (items_of (map plan_data plans)) ≡ false
plans_exact [] = refl
plans_exact (p ∷ plans) = rw (plan_exact (Some p)) (plans_exact plans)

members_exact : (branches : List (List Node)) (budget : ℕ) (numbers : List ℕ) (best : PlanView) (plans : List PlanView) → has_float (object
    (member (codes "branches") (forest_data branches) (member (codes "budget") (whole budget) (member (codes "lanes") (wholes numbers) (member (codes "plan") (plan_data best)
    (member (codes "plans") (list (map plan_data plans)) (member (codes "tested") null (member (codes "version") (whole 1) no_members)))))))) ≡ false
members_exact branches budget numbers best plans = rw (trees_exact branches, wholes_exact numbers, plan_exact (Some best), plans_exact plans) refl

tested_exact : (branches : List (List Node)) (budget : ℕ) (numbers : List ℕ) (best : PlanView) (lane : ℕ) → has_float (object
    (member (codes "branches") (forest_data branches) (member (codes "budget") (whole budget) (member (codes "lanes") (wholes numbers) (member (codes "plan") (plan_data best)
    (member (codes "plans") (list []) (member (codes "tested") (whole lane) (member (codes "version") (whole 1) no_members)))))))) ≡ false
tested_exact branches budget numbers best lane = rw (trees_exact branches, wholes_exact numbers, plan_exact (Some best)) refl

pub no_float : (best : PlanView) (budget : ℕ) (answer : BottleAnswer) → has_float (answer_data best budget answer) ≡ false
no_float best budget (Found c) = members_exact c.branches budget (members c.lanes) best c.plans
no_float best budget (Stopped lanes lane branches) = tested_exact branches budget (members lanes) best lane
