-- The trees of a test so far, and what the next search makes of them.
use Rattle.std.proofs.Common.{ℕ, List, [], ◌∷◌, ◌++◌, ◌≡◌, ◌+◌, ◌-◌, ◌*◌, ◌<◌, ◌≤◌, Option, None, length, length-append, ap, subst, sym, refl, ◌∙◌, arith}
use Rattle.std.specs.Prelude.{All}
use Rattle.std.proofs.lemmas.List.Sums.{sum_by_push}
use Rattle.sig_base.specs.declared.lane_set.LaneSet.{LaneSet}
use Rattle.sig_base.specs.declared.ratio.Ratio.{Ratio}
use Rattle.sig_base.specs.declared.target.Target.{Target}
use Rattle.sig_base.specs.declared.target.Target.TheVariants.{Beat}
use Rattle.conflict_matrix.specs.Pairs.{tree_cover_of}
use Rattle.constraint_cycles.specs.Tree.{IsVisited, visited_count}
use Rattle.constraint_cycles.specs.declared.node.Node.{Node}
use Rattle.junction_model.specs.Covers.{cover_of}
use Rattle.junction_model.specs.Junction.{JunctionView}
use Rattle.plan_model.specs.FittedPlan.{fitted_plan_of}
use Rattle.plan_model.specs.declared.fitted_plan.FittedPlan.{FittedPlan}
use Rattle.cycle_orders.specs.Answer.{IsSearchAnswer, IsFirstPlan, IsCarried, IsEnded, IsStopped, IsClosedTree, IsStoppedTree, plan_in}
use Rattle.cycle_orders.specs.Forest.{EachTreeOf, HasTreesBelow, visited_in}
use Rattle.cycle_orders.specs.Search.{SearchView, search_of, IsRunning, IsPlanFor}
use Rattle.cycle_orders.specs.SearchedNodes.{AreSearched}
use Rattle.cycle_orders.specs.declared.answer.CycleAnswer.TheVariants as answer
use Rattle.cycle_orders.specs.declared.answer.Mode.TheVariants.{First}
use Rattle.cycle_orders.proofs.EachTree.{push_tree, map_trees, all_trees}
use Rattle.cycle_orders.proofs.JoinedAnswers.{none_carried}
use Rattle.cycle_orders.proofs.VisitedCounts.{few_visited, few_more, below_cover}
use Rattle.bottleneck_lanes.specs.Tested.{IsEndedTree, IsEndedTest, IsBeatenTest, IsStoppedForest, test_search}

pub same_search : (own junction : JunctionView) (given lanes : LaneSet) (multiple : Ratio) (cycle : ℕ) → own ≡ junction → given ≡ lanes →
    search_of own given (Beat multiple) cycle First ≡ search_of junction lanes (Beat multiple) cycle First
same_search own junction given lanes multiple cycle same_junction same_lanes = rw (same_junction, same_lanes) refl

module _ (junction : JunctionView) (multiple : Ratio) (lanes : LaneSet) where
  -- the cycles below one are done, and so much of the budget is left
  pub record IsTesting (budget left cycle : ℕ) (forest : List (List Node)) : Type 0 where
    pub below : HasTreesBelow junction cycle forest
    pub each : EachTreeOf junction (IsEndedTree junction multiple lanes) forest
    pub counted : visited_in forest + left ≡ budget
    pub few : visited_in forest ≤ length forest * tree_cover_of junction.conflicts

  pub begun : (budget : ℕ) → IsTesting budget budget junction.least_cycle []
  begun budget = record { below = omega arith; each = tt; counted = omega arith; few = omega arith }

  module _ (cycle : ℕ) (s : SearchView) (is : s ≡ search_of junction lanes (Beat multiple) cycle First) where
    without_plan : (found : Option FittedPlan) → IsCarried s found → found ≡ None
    without_plan found = none_carried s found (ap (λ (v : SearchView). v.mode) is)

    -- no plan is carried in mode First, so the running target is the asked one
    asked_target : (found : Option FittedPlan) (target : Target) → IsCarried s found → IsRunning s (plan_in found) target → target ≡ Beat multiple
    asked_target found target carried running =
        let own = subst (λ f. IsRunning s (plan_in f) target) (without_plan found carried) running in
        own ∙ ap (λ (v : SearchView). v.target) is

    closed_tree : (found : Option FittedPlan) (nodes : List Node) → IsEnded s nodes found → IsEndedTree junction multiple lanes cycle nodes
    closed_tree found nodes ended =
        let same = asked_target found ended.target ended.carried ended.running in
        let tree = subst (λ t. IsClosedTree s t nodes) same ended.tree in
        let own = subst (λ v. IsClosedTree v (Beat multiple) nodes) is tree in record {
          tree = record { whole = own.closes.whole; sound = own.closes.sound; due = own.due; lean = own.lean };
          visited = own.closes.visited;
        }

    stopped_tree : (found : Option FittedPlan) (nodes : List Node) → IsStopped s nodes found →
        IsStoppedTree (search_of junction lanes (Beat multiple) cycle First) (Beat multiple) nodes
    stopped_tree found nodes stopped =
        let same = asked_target found stopped.target stopped.carried stopped.running in
        subst (λ v. IsStoppedTree v (Beat multiple) nodes) is (subst (λ t. IsStoppedTree s t nodes) same stopped.tree)

    -- the first plan ends the test
    pub found_next : (budget before left : ℕ) (forest : List (List Node)) → IsTesting budget before cycle forest → (f : FittedPlan) →
        IsSearchAnswer s before left (answer.Found f) → IsBeatenTest junction multiple budget lanes (fitted_plan_of f)
    found_next budget before left forest testing f own =
        let first = subst (λ v. IsFirstPlan v own.0 f) is own.1 in
        let lasts = first.plan.of_order.lasts in record {
          forest = forest;
          trees = omega (arith, testing.below, lasts);
          each = testing.each;
          nodes = own.0;
          marks = first.marks;
          later = first.later;
          searched = subst (λ c. AreSearched (test_search junction multiple lanes c) (Beat multiple) own.0 (first.marks ∷ first.later)) (sym lasts) first.searched;
          plan = subst (λ c. IsPlanFor (test_search junction multiple lanes c) (Beat multiple) first.marks (fitted_plan_of f)) (sym lasts) first.plan;
          within = omega (arith, testing.counted, own.2);
        }

    module _ (budget before left : ℕ) (forest : List (List Node)) (testing : IsTesting budget before cycle forest) (nodes : List Node) (later : List (List Node)) (pushed : later ≡ forest ++ nodes ∷ []) (found : Option FittedPlan) where
      -- one more tree
      pub closed_next : IsSearchAnswer s before left (answer.Closed nodes found) → IsTesting budget left (cycle + 1) later
      closed_next own =
          let more = length-append forest (nodes ∷ []) in
          let ended = closed_tree found nodes own.0 in rw pushed (record {
            below = omega (arith, more, testing.below);
            each = push_tree _ forest junction.least_cycle cycle nodes (sym testing.below) testing.each ended;
            counted = rw (sum_by_push visited_count forest nodes) (omega (arith, testing.counted, own.1));
            few = rw (sum_by_push visited_count forest nodes) (few_more (length forest) _ (visited_in forest) (visited_count nodes) (tree_cover_of junction.conflicts) (omega (arith, more)) testing.few
                (few_visited junction.conflicts _ cycle nodes ended.tree.whole ended.tree.sound));
          })

      -- a last tree
      pub stopped_next : cycle ≤ junction.greatest_cycle → IsSearchAnswer s before left (answer.Stopped nodes found) →
          IsStoppedForest junction multiple budget lanes later × (budget < cover_of junction)
      stopped_next within own =
          let tree = stopped_tree found nodes own.0 in
          let small = below_cover (length forest) (junction.greatest_cycle - junction.least_cycle + 1) (visited_in forest) (visited_count nodes) (tree_cover_of junction.conflicts)
          (omega (arith, testing.below, within)) testing.few tree.few in
          let sum : visited_in forest + visited_count nodes ≡ budget = omega (arith, testing.counted, own.1) in
          rw pushed (
            record {
              finished = forest;
              last = nodes;
              joined = refl;
              within = omega (arith, testing.below, within);
              visited = all_trees _ (All IsVisited) (λ c own_nodes ended. ended.visited) forest junction.least_cycle testing.each;
              ends = tree.ends;
              counted = sum_by_push visited_count forest nodes ∙ sum;
              each = push_tree _ forest junction.least_cycle cycle nodes (sym testing.below) (map_trees _ _ forest junction.least_cycle (λ c own_nodes from to ended. ended.tree) testing.each)
                  (record { whole = tree.whole; sound = tree.sound; due = tree.due; lean = tree.lean });
            },
            subst (λ n. n < cover_of junction) sum small,
          )

  -- behind the last cycle
  pub ended_test : (budget left cycle : ℕ) (forest : List (List Node)) → IsTesting budget left cycle forest → cycle ≡ junction.greatest_cycle + 1 →
      IsEndedTest junction multiple budget lanes forest
  ended_test budget left cycle forest testing last = record {
    trees = omega (arith, testing.below, last);
    each = testing.each;
    within = omega (arith, testing.counted);
  }
