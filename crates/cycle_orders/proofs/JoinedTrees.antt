-- The trees of all cycles so far, and what they show.
use Rattle.std.proofs.Common.{ℕ, List, [], ◌∷◌, ◌++◌, ◌≡◌, ◌+◌, ◌-◌, ◌*◌, ◌<◌, ◌≤◌, Option, None, Some, length, length-append, inl, inr, subst, sym, refl, ◌∙◌, arith}
use Rattle.std.specs.Prelude.{All, IfSome}
use Rattle.std.proofs.lemmas.Bool.{cases_lt}
use Rattle.std.proofs.lemmas.List.Sums.{sum_by_push}
use Rattle.sig_base.specs.Ratio.{fraction_of}
use Rattle.sig_base.specs.declared.ratio.Ratio.{Ratio}
use Rattle.sig_base.specs.declared.target.Target.{Target}
use Rattle.sig_base.specs.declared.target.Target.TheVariants.{Reach, Beat}
use Rattle.sig_base.proofs.Fraction.{at_most}
use Rattle.conflict_matrix.specs.Pairs.{tree_cover_of}
use Rattle.constraint_cycles.specs.Tree.{IsVisited, IsWholeTree, visited_count}
use Rattle.constraint_cycles.specs.declared.mark.Mark.{Mark}
use Rattle.constraint_cycles.specs.declared.node.Node.{Node}
use Rattle.constraint_cycles.proofs.NodeCounts.{root_count_law}
use Rattle.junction_model.specs.Covers.{cover_of}
use Rattle.junction_model.specs.Junction.{JunctionView}
use Rattle.junction_model.specs.Rules.{IsJunction}
use Rattle.plan_model.specs.AllLanes.{all_lanes}
use Rattle.plan_model.specs.Claims.{IsPlanMultiplier}
use Rattle.plan_model.specs.FittedPlan.{fitted_plan_of}
use Rattle.plan_model.specs.Fits.{Fits}
use Rattle.plan_model.specs.Multiplier.{MeetsTarget, Meets, Beats}
use Rattle.plan_model.specs.SignalPlan.{PlanView}
use Rattle.plan_model.specs.declared.fitted_plan.FittedPlan.{FittedPlan}
use Rattle.plan_model.proofs.AllLanes.{all_lanes_target_law}
use Rattle.least_greens.specs.ClosingLaws.{RisingWalkLaw, RisingCycleLaw, ClosedCycleLaw}
use Rattle.least_greens.specs.ForTarget.{needs_of, ClosesCycleFor}
use Rattle.least_greens.specs.Targets.{IsNotAbove}
use Rattle.least_greens.proofs.Multipliers.{outdone_law}
use Rattle.least_greens.proofs.TargetOrder.{transitive_law}
use Rattle.cycle_orders.specs.Answer.{IsStoppedTree, IsStopped, plan_in}
use Rattle.cycle_orders.specs.Due.{SplitsDue}
use Rattle.cycle_orders.specs.Forest.{EachTreeOf, EachNode, IsSearchTree, IsSoundFor, IsStoppedAt, IsLeanForLeast, IsMultipleWith, target_with, visited_in}
use Rattle.cycle_orders.specs.Joined.{IsAsked, IsFoundBelow, IsBestBelow, IsEndedTree, IsJoined, next_target, next_search}
use Rattle.cycle_orders.specs.JoinedLaws.{NoPlanLaw, BetterPlanLaw, StoppedLaw, GreatestLaw, ExhaustedLaw, ShortestLaw, IsNext, later_plan}
use Rattle.cycle_orders.specs.JunctionAnswer.{IsPlanOf}
use Rattle.cycle_orders.specs.Lean.{IsLeanFor}
use Rattle.cycle_orders.specs.Search.{SearchView, IsPlanFor}
use Rattle.cycle_orders.specs.declared.answer.Mode.{Mode}
use Rattle.cycle_orders.proofs.JoinedLean.{AreBeatenBelow, lean_lesser, lean_outlasts}
use Rattle.cycle_orders.proofs.JoinedTargets.{over_all, of_plan, some_cycle, meets_lesser, reached_beside, beaten_beside, beaten_own, next_is, next_above, least_below, risen_before}
use Rattle.cycle_orders.proofs.EachTree.{push_tree, tree_of, map_trees, all_trees}
use Rattle.cycle_orders.proofs.VisitedCounts.{few_visited, few_more, below_cover}

module _ (junction : JunctionView) where
  module _ (least : Ratio) where
    closes_cycle : (target : Target) (cycle : ℕ) (nodes : List Node) → IsEndedTree junction least target cycle nodes → ClosesCycleFor junction all_lanes target cycle nodes
    closes_cycle target cycle nodes ended = record { whole = ended.tree.whole; visited = ended.visited; sound = ended.tree.sound }

    ended_rises : RisingCycleLaw → (s t : Target) (cycle : ℕ) (nodes : List Node) → 1 ≤ cycle → IsNotAbove s t → IsEndedTree junction least s cycle nodes →
        IsEndedTree junction least t cycle nodes
    ended_rises rising s t cycle nodes some order ended = record {
      tree = record {
        whole = ended.tree.whole;
        sound = (rising junction all_lanes s t cycle nodes some order (closes_cycle s cycle nodes ended)).sound;
        lean = ended.tree.lean;
        due = ended.tree.due;
        outlasts = ended.tree.outlasts;
      };
      visited = ended.visited;
    }

    module _ (plan : Option PlanView) (multiple : Ratio) (cycle : ℕ) (forest : List (List Node)) (joined : IsJoined junction least plan multiple cycle forest) where
      -- no plan meets the target of its cycle
      excluded : ClosedCycleLaw → (q : PlanView) → Fits junction q → q.cycle < cycle → ¬ MeetsTarget junction q all_lanes (target_with plan multiple q.cycle)
      excluded closed q fits shorter =
          let tree = tree_of _ forest junction.least_cycle q.cycle fits.cycle.least (omega (arith, joined.below, shorter)) joined.trees in
          closed junction q all_lanes (target_with plan multiple q.cycle) tree.0 joined.rules (closes_cycle (target_with plan multiple q.cycle) q.cycle tree.0 tree.1)

      -- so to beat one isn't above the next target
      beaten_below : ClosedCycleLaw → AreBeatenBelow junction cycle (next_target plan multiple)
      beaten_below closed q r fits shorter is =
          let own = target_with plan multiple q.cycle in
          let misses = excluded closed q fits shorter in
          transitive_law (Beat r) own (next_target plan multiple)
          (outdone_law junction q all_lanes r own (some_cycle junction joined.rules q fits) (over_all junction joined.rules q r is)
          (λ serves. misses (record { fits = fits; serves = serves })))
          (next_above junction joined.rules least plan multiple cycle q.cycle joined.best)

      some_seconds : 1 ≤ cycle
      some_seconds = omega (arith, joined.rules.cycles.some, joined.below)

      -- the next tree, lean for the next target
      next_tree : RisingWalkLaw → ClosedCycleLaw → (target : Target) (nodes : List Node) → IsWholeTree junction.conflicts nodes → IsSoundFor junction target cycle nodes →
          EachNode junction (SplitsDue junction.conflicts) nodes → IsLeanFor junction all_lanes (next_target plan multiple) cycle nodes → IsSearchTree junction least target cycle nodes
      next_tree rising closed target nodes whole sound due lean = record {
        whole = whole;
        sound = sound;
        lean = lean_lesser rising junction cycle some_seconds (Reach least) (next_target plan multiple) (least_below junction joined.rules least plan multiple cycle joined.best) nodes lean;
        due = due;
        outlasts = lean_outlasts rising junction cycle some_seconds (next_target plan multiple) (beaten_below closed) nodes whole lean;
      }

      -- what the next search asks for is its cycle's target beside the best plan
      asked_is : target_with plan multiple cycle ≡ next_target plan multiple
      asked_is = next_is junction joined.rules least plan multiple cycle joined.best

-- a later plan, found by the next search
module _ (junction : JunctionView) (least : Ratio) (plan : Option PlanView) (multiple : Ratio) (cycle : ℕ) (forest : List (List Node)) (joined : IsJoined junction least plan multiple cycle forest)
    (mode : Mode) (target : Target) (marks : List Mark) (p : PlanView) (found : IsPlanFor (next_search junction plan multiple cycle mode) target marks p) where
  found_asked : IsAsked junction least p
  found_asked = record {
    meets = (all_lanes_target_law junction p least joined.rules).0.0
        (meets_lesser junction joined.rules p (Reach least) (next_target plan multiple) (least_below junction joined.rules least plan multiple cycle joined.best) found.meets_asked);
    first = found.first;
  }

  found_below : (own : Ratio) → IsPlanMultiplier junction p (fraction_of own) → IsFoundBelow junction least (cycle + 1) p own
  found_below own is = record { asked = found_asked; shorter = omega (arith, found.of_order.lasts); multiplier = is }

  -- the trees before stay closed beside it
  risen_trees : RisingCycleLaw → (own : Ratio) → IsPlanMultiplier junction p (fraction_of own) →
      EachTreeOf junction (λ c. IsEndedTree junction least (target_with (Some p) own c) c) forest
  risen_trees rising own is = map_trees _ _ forest junction.least_cycle (λ c nodes from below ended.
      ended_rises junction least rising (target_with plan multiple c) (target_with (Some p) own c) c nodes (omega (arith, joined.rules.cycles.some, from))
      (transitive_law (target_with plan multiple c) (next_target plan multiple) (target_with (Some p) own c)
      (next_above junction joined.rules least plan multiple cycle c joined.best)
      (risen_before junction joined.rules least plan multiple cycle c p own joined.best found.meets_asked is (omega (arith, below, joined.below, found.of_order.lasts))))
      ended) joined.trees

module _ (junction : JunctionView) (least : Ratio) (rules : IsJunction junction) (plan : Option PlanView) (multiple : Ratio) (cycle : ℕ) (forest : List (List Node))
    (below : junction.least_cycle + length forest ≡ cycle) (few : visited_in forest ≤ length forest * tree_cover_of junction.conflicts)
    (trees : EachTreeOf junction (λ c. IsEndedTree junction least (target_with plan multiple c) c) forest) (nodes : List Node) where
  -- one more tree
  joined_more : IsBestBelow junction least (cycle + 1) plan multiple → IsEndedTree junction least (target_with plan multiple cycle) cycle nodes →
      IsJoined junction least plan multiple (cycle + 1) (forest ++ nodes ∷ [])
  joined_more best ended =
      let more = length-append forest (nodes ∷ []) in
      let count = few_visited junction.conflicts _ cycle nodes ended.tree.whole ended.tree.sound in
      record {
        rules = rules;
        best = best;
        below = omega (arith, more, below);
        trees = push_tree _ forest junction.least_cycle cycle nodes (sym below) trees ended;
        few = rw (sum_by_push visited_count forest nodes) (few_more (length forest) _ (visited_in forest) (visited_count nodes) (tree_cover_of junction.conflicts) (omega (arith, more)) few count);
      }

  -- a last tree
  stopped_at : (s : SearchView) (budget : ℕ) → cycle ≤ junction.greatest_cycle → IsStoppedTree s (target_with plan multiple cycle) nodes → IsSearchTree junction least (target_with plan multiple cycle) cycle nodes →
      visited_in forest + visited_count nodes ≡ budget → IsMultipleWith junction least plan multiple →
      IsStoppedAt junction least budget plan (forest ++ nodes ∷ [])
  stopped_at s budget within stopped tree counted is = record {
    finished = forest;
    last = nodes;
    joined = refl;
    within = omega (arith, below, within);
    visited = all_trees _ (All IsVisited) (λ c own ended. ended.visited) forest junction.least_cycle trees;
    ends = stopped.ends;
    counted = sum_by_push visited_count forest nodes ∙ counted;
    multiple = multiple;
    is = is;
    trees = push_tree _ forest junction.least_cycle cycle nodes (sym below) (map_trees _ _ forest junction.least_cycle (λ c own from to ended. ended.tree) trees) tree;
  }

later_best : (junction : JunctionView) (least : Ratio) (plan : Option PlanView) (multiple : Ratio) (cycle : ℕ) → IsBestBelow junction least cycle plan multiple →
    IsBestBelow junction least (cycle + 1) plan multiple
later_best junction least None multiple cycle best = best
later_best junction least (Some p) multiple cycle best = record { asked = best.asked; shorter = omega (arith, best.shorter); multiplier = best.multiplier }

multiple_with : (junction : JunctionView) (least : Ratio) (plan : Option PlanView) (multiple : Ratio) (cycle : ℕ) → IsBestBelow junction least cycle plan multiple →
    IsMultipleWith junction least plan multiple
multiple_with junction least None multiple cycle best = best
multiple_with junction least (Some p) multiple cycle best = best.multiplier

at_target : (s : SearchView) (t u : Target) (nodes : List Node) → t ≡ u → IsStoppedTree s t nodes → IsStoppedTree s u nodes
at_target s t u nodes is = subst (λ v. IsStoppedTree s v nodes) is

module _ (rising_walk : RisingWalkLaw) (rising_cycle : RisingCycleLaw) (closed_cycle : ClosedCycleLaw) where
  pub no_plan_law : NoPlanLaw
  no_plan_law junction least plan multiple cycle forest mode nodes next ended =
      let joined = next.joined in
      let target = target_with plan multiple cycle in
      let is : ended.target ≡ target = ended.running ∙ sym (asked_is junction least plan multiple cycle forest joined) in
      let closes = subst (λ t. ClosesCycleFor junction all_lanes t cycle nodes) is ended.tree.closes in
      let tree = next_tree junction least plan multiple cycle forest joined rising_walk closed_cycle target nodes closes.whole closes.sound ended.tree.due ended.tree.lean in
      joined_more junction least joined.rules plan multiple cycle forest joined.below joined.few joined.trees nodes (later_best junction least plan multiple cycle joined.best)
      (record { tree = tree; visited = closes.visited })

  pub better_plan_law : BetterPlanLaw
  better_plan_law junction least plan multiple cycle forest mode nodes f own next ended is =
      let joined = next.joined in
      let p = fitted_plan_of f in
      let found = ended.carried.plan in
      let some : 1 ≤ cycle = some_seconds junction least plan multiple cycle forest joined in
      let target = target_with (Some p) own cycle in
      let order = beaten_own junction joined.rules p ended.running.0 own ended.target cycle (omega (arith, some, found.of_order.lasts))
      (of_plan junction joined.rules p ended.running.0 ended.running.1) is ended.running.2 (omega (arith, found.of_order.lasts)) in
      let closes = rising_cycle junction all_lanes ended.target target cycle nodes some order ended.tree.closes in
      let tree = next_tree junction least plan multiple cycle forest joined rising_walk closed_cycle target nodes closes.whole closes.sound ended.tree.due ended.tree.lean in (
        record { own = ended.carried.junction; asked = found_asked junction least plan multiple cycle forest joined mode ended.carried.for_target ended.carried.marks p found },
        joined_more junction least joined.rules (Some p) own cycle forest joined.below joined.few
            (risen_trees junction least plan multiple cycle forest joined mode ended.carried.for_target ended.carried.marks p found rising_cycle own is) nodes
            (found_below junction least plan multiple cycle forest joined mode ended.carried.for_target ended.carried.marks p found own is)
            (record { tree = tree; visited = closes.visited }),
      )

  module _ (junction : JunctionView) (least : Ratio) (plan : Option PlanView) (multiple : Ratio) (cycle : ℕ) (forest : List (List Node)) (mode : Mode)
      (nodes : List Node) (budget : ℕ) (next : IsNext junction least plan multiple cycle forest) (counted : visited_in forest + visited_count nodes ≡ budget) where
    stopped_tree : (target : Target) → IsStoppedTree (next_search junction plan multiple cycle mode) target nodes → IsSearchTree junction least target cycle nodes
    stopped_tree target stopped = next_tree junction least plan multiple cycle forest next.joined rising_walk closed_cycle target nodes stopped.whole stopped.sound stopped.due stopped.lean

    uncovered : (target : Target) → IsStoppedTree (next_search junction plan multiple cycle mode) target nodes → budget < cover_of junction
    uncovered target stopped =
        let few = below_cover (length forest) (junction.greatest_cycle - junction.least_cycle + 1) (visited_in forest) (visited_count nodes) (tree_cover_of junction.conflicts)
        (omega (arith, next.joined.below, next.within)) next.joined.few (omega (arith, stopped.few, root_count_law junction.conflicts)) in
        omega (arith, counted, few)

    stopped_with : (found : Option FittedPlan) → IsStopped (next_search junction plan multiple cycle mode) nodes found → IsStoppedAt junction least budget (later_plan plan (plan_in found)) (forest ++ nodes ∷ [])
    stopped_with None stop =
        let joined = next.joined in
        let is : stop.target ≡ target_with plan multiple cycle = stop.running ∙ sym (asked_is junction least plan multiple cycle forest joined) in
        let tree = at_target _ stop.target (target_with plan multiple cycle) nodes is stop.tree in
        stopped_at junction least joined.rules plan multiple cycle forest joined.below joined.few joined.trees nodes (next_search junction plan multiple cycle mode) budget next.within
        tree (stopped_tree (target_with plan multiple cycle) tree) counted (multiple_with junction least plan multiple cycle joined.best)
    stopped_with (Some f) stop =
        let joined = next.joined in
        let p = fitted_plan_of f in
        let own = stop.running.0 in
        let found = stop.carried.plan in
        let multiplier = of_plan junction joined.rules p own stop.running.1 in
        let is : stop.target ≡ target_with (Some p) own cycle = stop.running.2 ∙ sym (beaten_beside junction joined.rules p own cycle multiplier (omega (arith, found.of_order.lasts))) in
        let tree = at_target _ stop.target (target_with (Some p) own cycle) nodes is stop.tree in
        stopped_at junction least joined.rules (Some p) own cycle forest joined.below joined.few
        (risen_trees junction least plan multiple cycle forest joined mode stop.carried.for_target stop.carried.marks p found rising_cycle own multiplier) nodes
        (next_search junction plan multiple cycle mode) budget next.within tree (stopped_tree (target_with (Some p) own cycle) tree) counted multiplier

  found_plan : (junction : JunctionView) (least : Ratio) (plan : Option PlanView) (multiple : Ratio) (cycle : ℕ) (forest : List (List Node)) (mode : Mode) (nodes : List Node) (found : Option FittedPlan) →
      IsNext junction least plan multiple cycle forest → IsStopped (next_search junction plan multiple cycle mode) nodes found → IfSome found (IsPlanOf junction least)
  found_plan junction least plan multiple cycle forest mode nodes None next stop = tt
  found_plan junction least plan multiple cycle forest mode nodes (Some f) next stop = record {
    own = stop.carried.junction;
    asked = found_asked junction least plan multiple cycle forest next.joined mode stop.carried.for_target stop.carried.marks (fitted_plan_of f) stop.carried.plan;
  }

  pub stopped_law : StoppedLaw
  stopped_law junction least plan multiple cycle forest mode nodes found budget next stop counted = (
    stopped_with junction least plan multiple cycle forest mode nodes budget next counted found stop,
    uncovered junction least plan multiple cycle forest mode nodes budget next counted stop.target stop.tree,
    found_plan junction least plan multiple cycle forest mode nodes found next stop,
  )

  pub greatest_law : GreatestLaw
  greatest_law junction least p multiple forest joined =
      let rules = joined.rules in
      let multiplier = joined.best.multiplier in
      let excludes = excluded junction least (Some p) multiple (junction.greatest_cycle + 1) forest joined closed_cycle in
      let shortest : (q : PlanView) → q.cycle < p.cycle → ¬ Meets junction q (fraction_of multiple) = λ q shorter meets.
      excludes q meets.fits (omega (arith, meets.fits.cycle.greatest)) (subst (MeetsTarget junction q all_lanes) (sym (reached_beside junction rules p multiple q.cycle multiplier shorter))
      ((all_lanes_target_law junction q multiple rules).0.1 meets)) in
      let greatest : (q : PlanView) → ¬ Beats junction q (fraction_of multiple) = λ q beats. elim (cases_lt q.cycle p.cycle) [
        | inl shorter ↦ shortest q shorter (record { fits = beats.fits; reaches = λ k own is. at_most (fraction_of multiple) own (beats.exceeds k own is) })
        | inr long ↦ excludes q beats.fits (omega (arith, beats.fits.cycle.greatest)) (subst (MeetsTarget junction q all_lanes) (sym (beaten_beside junction rules p multiple q.cycle multiplier long))
            ((all_lanes_target_law junction q multiple rules).1.1 beats))
      ] in (
        record { meets = joined.best.asked.meets; multiplier = fraction_of multiple; is = multiplier; greatest = greatest; shortest = shortest },
        record {
          is = multiplier;
          trees = joined.below;
          closed = map_trees _ _ forest junction.least_cycle (λ c nodes from below ended. closes_cycle junction least (target_with (Some p) multiple c) c nodes ended) joined.trees;
          lean = map_trees _ _ forest junction.least_cycle (λ c nodes from below ended. ended.tree.lean) joined.trees;
        },
      )

  module _ (junction : JunctionView) (least : Ratio) (cycle : ℕ) (forest : List (List Node)) (joined : IsJoined junction least None least cycle forest) where
    none_meets : (q : PlanView) → q.cycle < cycle → ¬ Meets junction q (fraction_of least)
    none_meets q shorter meets = excluded junction least None least cycle forest joined closed_cycle q meets.fits shorter ((all_lanes_target_law junction q least joined.rules).0.1 meets)

    each_closed : EachTreeOf junction (ClosesCycleFor junction all_lanes (Reach least)) forest
    each_closed = map_trees _ _ forest junction.least_cycle (λ c nodes from below ended. closes_cycle junction least (Reach least) c nodes ended) joined.trees

    each_lean : EachTreeOf junction (IsLeanForLeast junction least) forest
    each_lean = map_trees _ _ forest junction.least_cycle (λ c nodes from below ended. ended.tree.lean) joined.trees

  at_least : (junction : JunctionView) (least multiple : Ratio) (cycle : ℕ) (forest : List (List Node)) → IsJoined junction least None multiple cycle forest →
      IsJoined junction least None least cycle forest
  at_least junction least multiple cycle forest joined = subst (λ m. IsJoined junction least None m cycle forest) joined.best joined

  pub exhausted_law : ExhaustedLaw
  exhausted_law junction least multiple forest found =
      let last = junction.greatest_cycle + 1 in
      let joined = at_least junction least multiple last forest found in (
        λ q meets. none_meets junction least last forest joined q (omega (arith, meets.fits.cycle.greatest)) meets,
        record { trees = joined.below; closed = each_closed junction least last forest joined; lean = each_lean junction least last forest joined },
      )

  pub shortest_law : ShortestLaw
  shortest_law junction least multiple cycle forest mode nodes f next first =
      let joined = at_least junction least multiple cycle forest next.joined in
      let asked = found_asked junction least None multiple cycle forest next.joined mode (next_target None multiple) first.marks (fitted_plan_of f) first.plan in
      let lasts = first.plan.of_order.lasts in (
        record { own = first.junction; asked = asked },
        record { meets = asked.meets; shortest = λ q shorter. none_meets junction least cycle forest joined q (omega (arith, shorter, lasts)) },
        record { trees = omega (arith, joined.below, lasts); closed = each_closed junction least cycle forest joined; lean = each_lean junction least cycle forest joined },
      )
