-- The plan that was found in one of the trees of a forest.
use Rattle.std.proofs.Common.{ℕ, ◌≡◌, ◌+◌, List, [], ◌∷◌, ◌++◌, Option, None, Some, sym, subst, ap, ◌∙◌, append_assoc}
use Rattle.std.specs.Prelude.{IfSome}
use Rattle.std.specs.Option.{option_or}
use Rattle.sig_base.specs.declared.ratio.Ratio.{Ratio}
use Rattle.constraint_cycles.specs.declared.node.Node.{Node}
use Rattle.junction_model.specs.Junction.{JunctionView}
use Rattle.plan_model.specs.FittedPlan.{fitted_plan_of}
use Rattle.plan_model.specs.SignalPlan.{PlanView}
use Rattle.plan_model.specs.declared.fitted_plan.FittedPlan.{FittedPlan}
use Rattle.cycle_orders.specs.Answer.{IsCarried, IsFoundIn, plan_in}
use Rattle.cycle_orders.specs.Forest.{HasTreesBelow, IsFoundAmong}
use Rattle.cycle_orders.specs.Joined.{next_search}
use Rattle.cycle_orders.specs.Search.{SearchView}
use Rattle.cycle_orders.specs.declared.answer.Mode.{Mode}

module _ (junction : JunctionView) (forest later : List (List Node)) (nodes : List Node) (pushed : later ≡ forest ++ nodes ∷ []) where
  -- one that was found in an earlier tree
  still_among : (plan : Option PlanView) → IfSome plan (IsFoundAmong junction forest) → IfSome plan (IsFoundAmong junction later)
  still_among None found = tt
  still_among (Some p) found = record {
    shorter = found.shorter;
    own = found.own;
    longer = found.longer ++ nodes ∷ [];
    joined = pushed ∙ ap (λ l. l ++ nodes ∷ []) found.joined ∙ append_assoc found.shorter (found.own ∷ found.longer) (nodes ∷ []);
    below = found.below;
    holds = found.holds;
  }

  -- the plan that the next search carries, or the best one before
  pub found_next : (plan : Option PlanView) (multiple : Ratio) (cycle : ℕ) (mode : Mode) (s : SearchView) → s ≡ next_search junction plan multiple cycle mode → HasTreesBelow junction cycle forest →
      (found best : Option FittedPlan) → IfSome (plan_in best) (IsFoundAmong junction forest) → IsCarried s found → IfSome (plan_in found) (IsFoundIn s.junction s.lanes nodes) →
      IfSome (plan_in (option_or found best)) (IsFoundAmong junction later)
  found_next plan multiple cycle mode s is below None best earlier carried own = still_among (plan_in best) earlier
  found_next plan multiple cycle mode s is below (Some f) best earlier carried own =
      let p = fitted_plan_of f in
      let lasts : p.cycle ≡ cycle = carried.plan.of_order.lasts ∙ ap (λ (v : SearchView). v.cycle) is in
      record {
        shorter = forest;
        own = nodes;
        longer = [];
        joined = pushed;
        below = below ∙ sym lasts;
        holds = subst (λ (v : SearchView). IsFoundIn v.junction v.lanes nodes p) is own;
      }
