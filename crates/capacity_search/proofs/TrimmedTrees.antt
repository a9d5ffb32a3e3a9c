-- The trees of all cycles, trimmed.
use Rattle.std.proofs.Common.{ℕ, List, [], ◌∷◌, ◌++◌, ◌≡◌, ◌+◌, ◌≤◌, Some, length, slice_get, take, arith}
use Rattle.std.proofs.lemmas.List.Sums.{sum_by_push, sum_by_more}
use Rattle.std.proofs.lemmas.Option.{slice_get_within, get_or_from_slice_get}
use Rattle.sig_base.specs.declared.lane_set.LaneSet.{LaneSet}
use Rattle.sig_base.specs.declared.ratio.Ratio.{Ratio}
use Rattle.sig_base.specs.declared.target.Target.{Target}
use Rattle.sig_base.specs.declared.target.Target.TheVariants.{Reach}
use Rattle.constraint_cycles.specs.Tree.{visited_count}
use Rattle.constraint_cycles.specs.declared.node.Node.{Node}
use Rattle.junction_model.specs.Junction.{JunctionView}
use Rattle.least_greens.specs.ForTarget.{target_beside, ClosesCycleFor}
use Rattle.plan_model.specs.AllLanes.{all_lanes}
use Rattle.plan_model.specs.SignalPlan.{PlanView}
use Rattle.cycle_orders.specs.Forest.{EachTree, IsClosedBeside, IsGreatest, IsLeanForLeast, visited_in}
use Rattle.cycle_orders.specs.Lean.{IsLeanFor}
use Rattle.cycle_orders.proofs.EachTree.{push_tree, tree_at, map_trees}

module _ (junction : JunctionView) (least : Ratio) (p : PlanView) (multiplier : Ratio) where
  -- a tree that closes its cycle for its target beside the plan, lean for that and for reaching the least
  pub record IsTrimmedTree (cycle : ℕ) (nodes : List Node) : Type 0 where
    pub closes : ClosesCycleFor junction all_lanes (target_beside p.cycle multiplier cycle) cycle nodes
    pub lean : IsLeanForLeast junction least cycle nodes
    pub own_lean : IsLeanFor junction all_lanes (target_beside p.cycle multiplier cycle) cycle nodes

  pub greatest_of : (forest trimmed : List (List Node)) → IsClosedBeside junction least p multiplier forest → length trimmed ≡ length forest →
      EachTree IsTrimmedTree junction.least_cycle trimmed → IsGreatest junction least p trimmed
  greatest_of forest trimmed beside long each = record {
    multiplier = multiplier;
    is = beside.is;
    trees = omega (arith, beside.trees, long);
    closed = map_trees _ _ trimmed junction.least_cycle (λ cycle nodes from below tree. tree.closes) each;
    lean = map_trees _ _ trimmed junction.least_cycle (λ cycle nodes from below tree. tree.lean) each;
    own_lean = map_trees _ _ trimmed junction.least_cycle (λ cycle nodes from below tree. tree.own_lean) each;
  }

  -- the tree of a number, and what trimming leaves of it
  module _ (forest : List (List Node)) (beside : IsClosedBeside junction least p multiplier forest) (number : ℕ) (older : List Node) (at : slice_get forest number ≡ Some older)
      (lanes : LaneSet) (every : lanes ≡ all_lanes) (target : Target) (cycle : ℕ) (own_cycle : cycle ≡ junction.least_cycle + number) (own_target : target ≡ target_beside p.cycle multiplier cycle) where
    pub older_closes : ClosesCycleFor junction lanes target cycle older
    older_closes = rw (every, own_target, own_cycle) (tree_at _ forest junction.least_cycle number older at beside.closed)

    older_lean : IsLeanFor junction lanes (Reach least) cycle older
    older_lean = rw (every, own_cycle) (tree_at _ forest junction.least_cycle number older at beside.lean)

    pub trimmed_next : (trimmed grown : List (List Node)) (nodes : List Node) → length trimmed ≡ number → EachTree IsTrimmedTree junction.least_cycle trimmed → grown ≡ trimmed ++ nodes ∷ [] →
        ClosesCycleFor junction lanes target cycle nodes → IsLeanFor junction lanes target cycle nodes →
        ((other : Target) → IsLeanFor junction lanes other cycle older → IsLeanFor junction lanes other cycle nodes) → EachTree IsTrimmedTree junction.least_cycle grown
    trimmed_next trimmed grown nodes long each pushed closes lean still = rw pushed (push_tree IsTrimmedTree trimmed junction.least_cycle cycle nodes (omega (arith, own_cycle, long)) each (record {
      closes = rw (every, own_target) at closes;
      lean = rw every at (still (Reach least) older_lean);
      own_lean = rw (every, own_target) at lean;
    }))

-- one more tree that has no more visited nodes than the older one
pub counted_next : (forest trimmed grown : List (List Node)) (number : ℕ) (older nodes : List Node) → slice_get forest number ≡ Some older → visited_in trimmed ≤ visited_in (take number forest) →
    grown ≡ trimmed ++ nodes ∷ [] → visited_count nodes ≤ visited_count older → visited_in grown ≤ visited_in (take (number + 1) forest)
counted_next forest trimmed grown number older nodes at no_more pushed fewer =
    rw (pushed, sum_by_push visited_count trimmed nodes, sum_by_more visited_count forest number older (slice_get_within forest number older at), get_or_from_slice_get forest number older older at)
    (omega (arith, no_more, fewer))
