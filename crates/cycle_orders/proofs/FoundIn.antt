-- The plan that was found in a tree.
use Rattle.std.proofs.Common.{ℕ, ◌≡◌, ◌<◌, ◌≤◌, inl, inr, List, [], ◌∷◌, ◌++◌, Option, None, Some, length, refl, sym, subst, ap, ◌∙◌, arith, slice_index}
use Rattle.std.specs.Prelude.{IfSome}
use Rattle.std.proofs.lemmas.List.FromFn.{fill_by_all}
use Rattle.sig_base.specs.Ratio.{fraction_of}
use Rattle.sig_base.specs.declared.lane_set.LaneSet.{LaneSet}
use Rattle.sig_base.specs.declared.ratio.Ratio.{Ratio}
use Rattle.sig_base.specs.declared.target.Target.{Target}
use Rattle.sig_base.specs.declared.target.Target.TheVariants.{Reach}
use Rattle.constraint_cycles.specs.Marks.{root_marks}
use Rattle.constraint_cycles.specs.Tree.{orders_below}
use Rattle.constraint_cycles.specs.Visit.{Visit, visits}
use Rattle.constraint_cycles.specs.declared.mark.Mark.{Mark}
use Rattle.constraint_cycles.specs.declared.node.Node.{Node}
use Rattle.junction_model.specs.Junction.{JunctionView}
use Rattle.junction_model.specs.Rules.{IsJunction}
use Rattle.least_greens.specs.ClosingLaws.{NeedsLaw}
use Rattle.least_greens.specs.ForTarget.{needs_of}
use Rattle.least_greens.specs.Laws.{PlanNeedLaw, RisingNeedLaw}
use Rattle.least_greens.specs.NeedOf.{need_of}
use Rattle.least_greens.proofs.Multipliers.{reached_own}
use Rattle.plan_model.specs.Fits.{group_count}
use Rattle.plan_model.specs.Multiplier.{IsLeastMultiplier}
use Rattle.plan_model.specs.SignalPlan.{PlanView, green_of}
use Rattle.cycle_orders.specs.Answer.{IsFoundIn}
use Rattle.cycle_orders.specs.Search.{SearchView, IsAtOwnRatio, IsPlanFor}
use Rattle.cycle_orders.specs.Trimmed.{IsAmong}
use Rattle.cycle_orders.proofs.Trimmed.{among_later}

-- greens that are the needs for a target which the plan meets are those for reaching its own multiplier: that target isn't
-- above it, and the plan reaches it
pub at_own_ratio : NeedsLaw → PlanNeedLaw → RisingNeedLaw → (s : SearchView) (target : Target) (marks : List Mark) (p : PlanView) (r : Ratio) → IsJunction s.junction →
    IsPlanFor s target marks p → IsLeastMultiplier s.junction p s.lanes (fraction_of r) → IsAtOwnRatio s.junction s.lanes marks p
at_own_ratio needs_law plan_need rising s target marks p r rules plan least =
    let some : 1 ≤ p.cycle = omega (arith, plan.meets.fits.cycle.least, rules.cycles.some) in
    let below = reached_own s.junction p s.lanes r target some least plan.meets in
    let reached = ((plan_need s.junction p s.lanes (Reach r) rules).0 (record { fits = plan.meets.fits; serves = λ k own counts. least.least k own counts })).1 in
    let greens : p.greens ≡ needs_of s.junction s.lanes target p.cycle = subst (λ cycle. p.greens ≡ needs_of s.junction s.lanes target cycle) (sym plan.of_order.lasts) plan.of_order.greens in
    let law = needs_law s.junction s.lanes target p.cycle in
    record {
      ratio = r;
      own = least;
      plan = record {
        below_root = plan.of_order.below_root;
        decided = plan.of_order.decided;
        lasts = refl;
        greens = fill_by_all (need_of s.junction s.lanes (Reach r) p.cycle) p.greens (group_count s.junction) 0 (ap length greens ∙ law.0)
            (λ i under.
            let green : green_of p i ≡ need_of s.junction s.lanes target p.cycle i = ap (λ xs. slice_index xs i) greens ∙ law.1 i under in
            let up = rising s.junction s.lanes target (Reach r) p.cycle i some below in
            omega (arith, green, up, reached i under));
        starts = plan.of_order.starts;
      };
    }

-- a node stays among those of a longer tree
among_more : (nodes more : List Node) (coming : List (List Mark)) (before : List Visit) (marks : List Mark) (node : Node) → IsAmong marks node (visits coming nodes before) →
    IsAmong marks node (visits coming (nodes ++ more) before)
among_more [] more coming before marks node among = among_later more coming before marks node among
among_more (n ∷ nodes) more [] before marks node among = among
among_more (n ∷ nodes) more (first ∷ coming) before marks node among = among_more nodes more (orders_below first n ++ coming) ((first, n) ∷ before) marks node among

module _ (junction : JunctionView) (lanes : LaneSet) where
  pub found_more : (nodes more : List Node) (plan : Option PlanView) → IfSome plan (IsFoundIn junction lanes nodes) → IfSome plan (IsFoundIn junction lanes (nodes ++ more))
  found_more nodes more None found = tt
  found_more nodes more (Some p) found = record {
    marks = found.marks;
    walk = found.walk;
    closed = among_more nodes more (root_marks junction.conflicts ∷ []) [] found.marks _ found.closed;
    best = found.best;
  }
