-- The answer of a session that ends.
use Rattle.std.proofs.Common.{◌≡◌, ℕ, ◌-◌, ◌<◌, ◌≤◌, List, [], ◌∷◌, length, refl, sym, subst, ◌∙◌, arith, drop, take, replicate, slice_index_or, Option}
use Rattle.std.specs.Prelude.{IfSome}
use Rattle.sig_base.specs.declared.target.Target.{Target}
use Rattle.constraint_cycles.specs.declared.mark.Mark.{Mark}
use Rattle.constraint_cycles.specs.declared.node.Node.{Node}
use Rattle.constraint_cycles.specs.declared.node.Node.TheVariants.{Unvisited}
use Rattle.junction_model.specs.Rules.{IsJunction}
use Rattle.least_greens.specs.ClosingLaws.{ClosedCycleLaw}
use Rattle.least_greens.specs.ForTarget.{ClosesCycleFor}
use Rattle.plan_model.specs.declared.fitted_plan.FittedPlan.{FittedPlan}
use Rattle.cycle_orders.specs.Answer.{IsClosedTree, IsExcluded, IsFoundIn, IsSearchAnswer, plan_in}
use Rattle.cycle_orders.specs.Place.{PlaceView}
use Rattle.cycle_orders.specs.Search.{SearchView}
use Rattle.cycle_orders.specs.Standing.{IsTreeSoFar, IsOnTheWay, HasFirstPlan}
use Rattle.cycle_orders.specs.declared.answer.CycleAnswer.TheVariants as answer
use Rattle.constraint_cycles.proofs.NodeCounts.{visited_count_law}
use Rattle.cycle_orders.proofs.FoundIn.{found_more}
use Rattle.cycle_orders.proofs.SearchTrees.{tree_length, tree_visited, closed_tree, stopped_tree}
use Rattle.cycle_orders.proofs.Standings.{some_coming, first_and_rest}

none_coming : (coming : List (List Mark)) → length coming ≡ 0 → coming ≡ []
none_coming [] none = refl
none_coming (marks ∷ coming) none = absurd (omega arith)

module _ (s : SearchView) (t : Target) (p : PlaceView) (tree : List Node) (k n : ℕ) where
  -- what was found in the visited nodes was found in the tree
  found_all : (plan : Option FittedPlan) → IsOnTheWay s t p tree k plan → IfSome (plan_in plan) (IsFoundIn s.junction s.lanes tree)
  found_all plan h = subst (λ nodes. IfSome (plan_in plan) (IsFoundIn s.junction s.lanes nodes)) (sym h.tree_is.whole)
      (found_more s.junction s.lanes (take k tree) (replicate (length p.coming) Unvisited) (plan_in plan) h.found)

  pub finish_stopped : (plan : Option FittedPlan) → IsOnTheWay s t p tree k plan → k < length tree → k ≡ n → IsSearchAnswer s n (n - k) (answer.Stopped tree plan)
  finish_stopped plan h below all =
      let first = subst (IsTreeSoFar s t tree k) (first_and_rest p.coming (some_coming s t p tree k plan h below)) h.tree_is in (
        record { target = t; running = h.running; tree = stopped_tree s t tree k (slice_index_or p.coming 0 []) (drop 1 p.coming) first; carried = h.carried; found = found_all plan h },
        tree_visited s t tree k p.coming h.tree_is ∙ all,
        omega arith,
      )

  excluded : ClosedCycleLaw → IsJunction s.junction → IsClosedTree s t tree → IsExcluded s t
  excluded law rules closed q lasts = law s.junction q s.lanes t tree rules (subst (λ cycle. ClosesCycleFor s.junction s.lanes t cycle tree) (sym lasts) closed.closes)

  pub finish_closed : ClosedCycleLaw → IsJunction s.junction → (plan : Option FittedPlan) → IsOnTheWay s t p tree k plan → ¬ (k < length tree) → k ≤ n →
      IsSearchAnswer s n (n - k) (answer.Closed tree plan)
  finish_closed law rules plan h over most =
      let none : p.coming ≡ [] = none_coming p.coming (omega (arith, tree_length s t tree k p.coming h.tree_is, over)) in
      let done = subst (IsTreeSoFar s t tree k) none h.tree_is in
      let closed : IsClosedTree s t tree = closed_tree s t tree k done in (
        record { target = t; running = h.running; tree = closed; excluded = excluded law rules closed; carried = h.carried; found = found_all plan h },
        omega (arith, tree_visited s t tree k p.coming h.tree_is, most),
      )

  pub finish_found : (f : FittedPlan) → HasFirstPlan s tree k f → k ≤ n → IsSearchAnswer s n (n - k) (answer.Found f)
  finish_found f h most = (tree, h.plan, omega (arith, visited_count_law tree h.plan.searched.visited, h.counted, most))
