-- The test of one lane: cycle by cycle, upwards, the search for a plan that beats the multiple over the lanes that are
-- left beside it.
use Rattle.std.specs.Prelude.{ℕ, List, [], ◌∷◌, ◌++◌, length, ◌≡◌, ◌+◌, ◌<◌, ◌≤◌, ◌⊎◌, ◌↔◌, All}
use Rattle.sig_base.specs.LaneSet.{IsIn, without}
use Rattle.sig_base.specs.declared.lane_set.LaneSet.{LaneSet}
use Rattle.sig_base.specs.declared.ratio.Ratio.{Ratio}
use Rattle.sig_base.specs.declared.target.Target.TheVariants.{Beat}
use Rattle.constraint_cycles.specs.Tree.{IsSound, IsVisited, IsWholeTree, visited_count}
use Rattle.constraint_cycles.specs.declared.mark.Mark.{Mark}
use Rattle.constraint_cycles.specs.declared.node.Node.{Node}
use Rattle.junction_model.specs.Junction.{JunctionView}
use Rattle.least_greens.specs.ForTarget.{needs_of}
use Rattle.plan_model.specs.SignalPlan.{PlanView}
use Rattle.cycle_orders.specs.Answer.{EndsUnvisited}
use Rattle.cycle_orders.specs.Due.{SplitsDue}
use Rattle.cycle_orders.specs.Forest.{EachNode, EachTreeOf, HasTreesBelow, visited_in}
use Rattle.cycle_orders.specs.Lean.{IsLeanFor}
use Rattle.cycle_orders.specs.Search.{SearchView, search_of, IsPlanFor}
use Rattle.cycle_orders.specs.SearchedNodes.{AreSearched}
use Rattle.cycle_orders.specs.declared.answer.Mode.TheVariants.{First}
use Rattle.bottleneck_lanes.specs.Critical.{HasArrival, AreArriving, BeatsWithout, IsUnbeaten}

-- what is left beside lane k as it is tested: of the lanes below those that are kept, and all above on which something
-- arrives
abbrev pub IsLeftBeside : JunctionView → LaneSet → ℕ → LaneSet → Type 0
IsLeftBeside junction kept k rest = (j : ℕ) → IsIn rest j ↔ (((j < k) × IsIn kept j) ⊎ ((k < j) × HasArrival junction j))

module _ (junction : JunctionView) (multiple : Ratio) where
  -- a whole tree whose Closed nodes close for beating the multiple over the lanes; it splits no order without need, and
  -- each Split decides its due item
  pub record IsTestTree (lanes : LaneSet) (cycle : ℕ) (nodes : List Node) : Type 0 where
    pub whole : IsWholeTree junction.conflicts nodes
    pub sound : EachNode junction (IsSound junction.conflicts (needs_of junction lanes (Beat multiple) cycle) cycle) nodes
    pub due : EachNode junction (SplitsDue junction.conflicts) nodes
    pub lean : IsLeanFor junction lanes (Beat multiple) cycle nodes

  -- without an unvisited node
  pub record IsEndedTree (lanes : LaneSet) (cycle : ℕ) (nodes : List Node) : Type 0 where
    pub tree : IsTestTree lanes cycle nodes
    pub visited : All IsVisited nodes

  -- the test came to its end: the trees of all cycles, of no more nodes than the budget
  pub record IsEndedTest (budget : ℕ) (lanes : LaneSet) (forest : List (List Node)) : Type 0 where
    pub trees : HasTreesBelow junction (junction.greatest_cycle + 1) forest
    pub each : EachTreeOf junction (IsEndedTree lanes) forest
    pub within : visited_in forest ≤ budget

  -- the search of a cycle for a plan that beats the multiple over the lanes
  abbrev pub test_search : LaneSet → ℕ → SearchView
  test_search lanes cycle = search_of junction lanes (Beat multiple) cycle First

  -- the test came on this plan, which beats the multiple: the trees of all shorter cycles show that none of theirs does, and
  -- of the plan's own cycle these nodes were visited before the plan's; all of them, with the plan's own, are no more than
  -- the budget
  pub record IsBeatenTest (budget : ℕ) (lanes : LaneSet) (p : PlanView) : Type 0 where
    pub forest : List (List Node)
    pub trees : HasTreesBelow junction p.cycle forest
    pub each : EachTreeOf junction (IsEndedTree lanes) forest
    pub nodes : List Node
    pub marks : List Mark
    pub later : List (List Mark)
    pub searched : AreSearched (test_search lanes p.cycle) (Beat multiple) nodes (marks ∷ later)
    pub plan : IsPlanFor (test_search lanes p.cycle) (Beat multiple) marks p
    pub within : visited_in forest + visited_count nodes + 1 ≤ budget

  -- it was stopped in its last tree, after as many nodes as the budget
  pub record IsStoppedForest (budget : ℕ) (lanes : LaneSet) (forest : List (List Node)) : Type 0 where
    pub finished : List (List Node)
    pub last : List Node
    pub joined : forest ≡ finished ++ last ∷ []
    pub within : junction.least_cycle + length finished ≤ junction.greatest_cycle
    pub visited : All (All IsVisited) finished
    pub ends : EndsUnvisited last
    pub counted : visited_in forest ≡ budget
    pub each : EachTreeOf junction (IsTestTree lanes) forest

  -- the test of a lane of a set was stopped: no plan beats the multiple over the set, all lanes above are still in it, and
  -- of the lanes below none can be left out
  pub record IsStoppedTest (budget : ℕ) (lanes : LaneSet) (lane : ℕ) (forest : List (List Node)) : Type 0 where
    pub arriving : AreArriving junction lanes
    pub tested : IsIn lanes lane
    pub unbeaten : IsUnbeaten junction multiple lanes
    pub above : (k : ℕ) → lane < k → HasArrival junction k → IsIn lanes k
    pub below : (k : ℕ) → k < lane → IsIn lanes k → (p : PlanView) × BeatsWithout junction multiple lanes k p
    pub stopped : IsStoppedForest budget (without lanes lane) forest

  -- lane k isn't kept exactly where no plan beats the multiple over what was left beside it; its test, with the budget for
  -- itself, came on a plan where it is kept, and else to its end
  pub record IsJudged (budget : ℕ) (kept : LaneSet) (k : ℕ) : Type 0 where
    pub rest : LaneSet
    pub left : IsLeftBeside junction kept k rest
    pub exactly : (¬ IsIn kept k) ↔ IsUnbeaten junction multiple rest
    pub beaten : IsIn kept k → (p : PlanView) × IsBeatenTest budget rest p
    pub ended : ¬ IsIn kept k → (forest : List (List Node)) × IsEndedTest budget rest forest

  -- this is the plan on which lane k's test came
  pub record IsTestPlan (budget : ℕ) (kept : LaneSet) (k : ℕ) (p : PlanView) : Type 0 where
    pub rest : LaneSet
    pub left : IsLeftBeside junction kept k rest
    pub beaten : IsBeatenTest budget rest p
