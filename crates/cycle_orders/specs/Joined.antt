-- A search over the cycles, from the least one upwards, and what it has when all cycles below one are done. A later cycle
-- is asked for a plan that beats the best one so far; the trees of earlier cycles close for lesser targets than those
-- beside a later plan, and so for these too.
use Rattle.std.specs.Prelude.{ℕ, List, Option, None, Some, ◌≡◌, ◌*◌, ◌<◌, ◌≤◌, length, All}
use Rattle.sig_base.specs.Ratio.{fraction_of}
use Rattle.sig_base.specs.declared.ratio.Ratio.{Ratio}
use Rattle.sig_base.specs.declared.target.Target.{Target}
use Rattle.sig_base.specs.declared.target.Target.TheVariants.{Reach, Beat}
use Rattle.conflict_matrix.specs.Pairs.{tree_cover_of}
use Rattle.constraint_cycles.specs.Tree.{IsVisited}
use Rattle.constraint_cycles.specs.declared.node.Node.{Node}
use Rattle.junction_model.specs.Junction.{JunctionView}
use Rattle.junction_model.specs.Rules.{IsJunction}
use Rattle.plan_model.specs.AllLanes.{all_lanes}
use Rattle.plan_model.specs.Claims.{IsPlanMultiplier}
use Rattle.plan_model.specs.Multiplier.{Meets}
use Rattle.plan_model.specs.SignalPlan.{PlanView, start_of}
use Rattle.cycle_orders.specs.Forest.{HasTreesBelow, EachTreeOf, IsSearchTree, target_with, visited_in}
use Rattle.cycle_orders.specs.Search.{SearchView, search_of}
use Rattle.cycle_orders.specs.declared.answer.Mode.{Mode}

-- to beat the plan's multiplier, or to reach the multiple where there is no plan
abbrev pub next_target : Option PlanView → Ratio → Target
next_target None multiple = Reach multiple
next_target (Some p) multiple = Beat multiple

-- that target at a cycle, over all lanes
abbrev pub next_search : JunctionView → Option PlanView → Ratio → ℕ → Mode → SearchView
next_search junction plan multiple cycle mode = search_of junction all_lanes (next_target plan multiple) cycle mode

module _ (junction : JunctionView) (least : Ratio) where
  -- the plan meets the least, and begins with group 0
  pub record IsAsked (p : PlanView) : Type 0 where
    pub meets : Meets junction p (fraction_of least)
    pub first : start_of p 0 ≡ 0

  -- a plan of a cycle below this one, and its multiplier
  pub record IsFoundBelow (cycle : ℕ) (p : PlanView) (multiple : Ratio) : Type 0 where
    pub asked : IsAsked p
    pub shorter : p.cycle < cycle
    pub multiplier : IsPlanMultiplier junction p (fraction_of multiple)

  abbrev pub IsBestBelow : ℕ → Option PlanView → Ratio → Type 0
  IsBestBelow cycle None multiple = multiple ≡ least
  IsBestBelow cycle (Some p) multiple = IsFoundBelow cycle p multiple

  -- a tree of a search that came to its end
  pub record IsEndedTree (target : Target) (cycle : ℕ) (nodes : List Node) : Type 0 where
    pub tree : IsSearchTree junction least target cycle nodes
    pub visited : All IsVisited nodes

  -- the best plan of the cycles below this one, if any, and a tree for each of them, closed for its target by that plan
  pub record IsJoined (plan : Option PlanView) (multiple : Ratio) (cycle : ℕ) (forest : List (List Node)) : Type 0 where
    pub rules : IsJunction junction
    pub best : IsBestBelow cycle plan multiple
    pub below : HasTreesBelow junction cycle forest
    pub trees : EachTreeOf junction (λ own. IsEndedTree (target_with plan multiple own) own) forest
    pub few : visited_in forest ≤ length forest * tree_cover_of junction.conflicts
