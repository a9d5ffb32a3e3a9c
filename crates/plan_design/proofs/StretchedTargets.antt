-- The targets beside a stretched plan, and the trees of a forest.
use Rattle.std.proofs.Common.{ℕ, zero, suc, List, [], ◌∷◌, ◌≡◌, ◌+◌, ◌≤◌, Bool, true, false, subst, arith, nat_lt}
use Rattle.std.specs.Prelude.{Option, None, Some, IfSome, slice_get, if◌then◌else◌}
use Rattle.std.proofs.lemmas.Option.{slice_get_within}
use Rattle.sig_base.specs.Fraction.{IsAtMost}
use Rattle.sig_base.specs.Ratio.{fraction_of}
use Rattle.sig_base.specs.declared.ratio.Ratio.{Ratio}
use Rattle.sig_base.specs.declared.target.Target.{Target}
use Rattle.sig_base.specs.declared.target.Target.TheVariants.{Reach, Beat}
use Rattle.constraint_cycles.specs.Marks.{root_marks}
use Rattle.constraint_cycles.specs.Tree.{IsSound}
use Rattle.constraint_cycles.specs.declared.mark.Mark.{Mark}
use Rattle.constraint_cycles.specs.declared.node.Node.{Node}
use Rattle.constraint_cycles.specs.declared.node.Node.TheVariants.{Split, Closed, Unvisited}
use Rattle.constraint_cycles.proofs.Trees.{all_nodes}
use Rattle.junction_model.specs.Junction.{JunctionView}
use Rattle.junction_model.specs.Rules.{IsJunction}
use Rattle.plan_model.specs.AllLanes.{all_lanes}
use Rattle.plan_model.specs.Claims.{IsPlanMultiplier}
use Rattle.plan_model.specs.Fits.{Fits}
use Rattle.plan_model.specs.Multiplier.{Meets}
use Rattle.plan_model.specs.SignalPlan.{PlanView}
use Rattle.plan_model.proofs.AllLanes.{all_lanes_multiplier_law}
use Rattle.plan_model.proofs.MultiplierLaws.{plan_multiplier_law}
use Rattle.least_greens.specs.ClosingLaws.{RisingWalkLaw}
use Rattle.least_greens.specs.ForTarget.{needs_of, target_beside}
use Rattle.least_greens.specs.Targets.{IsNotAbove}
use Rattle.cycle_orders.specs.Forest.{EachTree, IsSoundFor}
use Rattle.plan_design.specs.DesignLaws.{IsStretchTo, IsStretchOfAsked, IsStretchOfAny}

-- the tree of a number, from the first tree's cycle on
pub tree_at : (P : ℕ → List Node → Type 0) (forest : List (List Node)) (cycle k : ℕ) (nodes : List Node) → EachTree P cycle forest → slice_get forest k ≡ Some nodes →
    P (cycle + k) nodes
tree_at P [] cycle k nodes each at = absurd (omega (arith, slice_get_within [] k nodes at))
tree_at P (tree ∷ forest) cycle zero nodes each at =
    let same : tree ≡ nodes = cc in
    let here : cycle ≡ cycle + 0 = omega arith in
    subst (λ c. P c nodes) here (subst (P cycle) same each.0)
tree_at P (tree ∷ forest) cycle (suc k) nodes each at =
    let own : P (cycle + 1 + k) nodes = tree_at P forest (cycle + 1) k nodes each.1 at in
    let same : cycle + 1 + k ≡ cycle + suc k = omega arith in
    subst (λ c. P c nodes) same own

-- a plan that fits has a multiplier
pub multiplier_of : (junction : JunctionView) → IsJunction junction → (p : PlanView) → Fits junction p → (r : Ratio) × IsPlanMultiplier junction p (fraction_of r)
multiplier_of junction rules p fits = plan_multiplier_law junction p rules (omega (arith, rules.cycles.some, fits.cycle.least))

-- the stretched plan meets the least too
pub meets_least : (junction : JunctionView) (least : Ratio) (p q : PlanView) → IsStretchOfAsked junction least p q → Meets junction q (fraction_of least)
meets_least junction least p q stretch = stretch.stretch.no_worse.meets (fraction_of least) stretch.asked.meets

pub meets_any : (junction : JunctionView) (least : Ratio) (plan stretched : Option PlanView) → IsStretchOfAny junction least plan stretched →
    IfSome stretched (λ q. Meets junction q (fraction_of least))
meets_any junction least None None any = tt
meets_any junction least None (Some q) any = absurd any
meets_any junction least (Some p) None any = absurd any
meets_any junction least (Some p) (Some q) any = meets_least junction least p q any

pub beside_rises : (m n : Ratio) → IsAtMost (fraction_of m) (fraction_of n) → (b : Bool) → IsNotAbove (if b then Reach m else Beat m) (if b then Reach n else Beat n)
beside_rises m n order true = order
beside_rises m n order false = order

module _ (junction : JunctionView) (rules : IsJunction junction) (p q : PlanView) (stretch : IsStretchTo junction p q) (m n : Ratio)
    (of_p : IsPlanMultiplier junction p (fraction_of m)) (of_q : IsPlanMultiplier junction q (fraction_of n)) where
  -- the stretched plan's multiplier isn't less
  pub no_less : IsAtMost (fraction_of m) (fraction_of n)
  no_less = stretch.no_worse.multiplier all_lanes (fraction_of m) (fraction_of n)
      ((all_lanes_multiplier_law junction p (fraction_of m) rules).1 of_p) ((all_lanes_multiplier_law junction q (fraction_of n) rules).1 of_q)

  -- nor is a cycle's target beside it
  pub risen_target : (cycle : ℕ) → IsNotAbove (target_beside p.cycle m cycle) (target_beside q.cycle n cycle)
  risen_target cycle = rw stretch.of.cycle (beside_rises m n no_less (nat_lt cycle p.cycle))

-- a sound tree stays sound for a greater target
module _ (rising : RisingWalkLaw) (junction : JunctionView) (s t : Target) (cycle : ℕ) (some : 1 ≤ cycle) (order : IsNotAbove s t) where
  abbrev SoundFor : Target → List Mark → Node → Type 0
  SoundFor target = IsSound junction.conflicts (needs_of junction all_lanes target cycle) cycle

  risen_node : (marks : List Mark) (own : Node) → SoundFor s marks own → SoundFor t marks own
  risen_node marks (Split item) sound = sound
  risen_node marks (Closed walk) sound = rising junction all_lanes s t cycle marks walk some order sound
  risen_node marks Unvisited sound = sound

  pub risen_nodes : (nodes : List Node) → IsSoundFor junction s cycle nodes → IsSoundFor junction t cycle nodes
  risen_nodes nodes = all_nodes (SoundFor s) (SoundFor t) risen_node (root_marks junction.conflicts ∷ []) nodes
