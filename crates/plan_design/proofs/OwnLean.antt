-- The trees of a forest are lean for their targets beside the stretched plan too: no plan has a greater multiplier than the
-- plan that was found, so the stretched one has the same.
use Rattle.std.proofs.Common.{ℕ, List, ◌≡◌, subst, arith, nat_lt}
use Rattle.sig_base.specs.Fraction.{IsAtMost}
use Rattle.sig_base.specs.Ratio.{fraction_of}
use Rattle.sig_base.specs.declared.ratio.Ratio.{Ratio}
use Rattle.sig_base.specs.declared.target.Target.{Target}
use Rattle.sig_base.specs.declared.target.Target.TheVariants.{Reach, Beat}
use Rattle.constraint_cycles.specs.declared.node.Node.{Node}
use Rattle.junction_model.specs.Junction.{JunctionView}
use Rattle.junction_model.specs.Rules.{IsJunction}
use Rattle.plan_model.specs.AllLanes.{all_lanes}
use Rattle.plan_model.specs.Claims.{IsPlanMultiplier}
use Rattle.plan_model.specs.SignalPlan.{PlanView}
use Rattle.plan_model.proofs.AllLanes.{all_lanes_multiplier_law}
use Rattle.least_greens.specs.ClosingLaws.{RisingWalkLaw, ClosedCycleLaw}
use Rattle.least_greens.specs.ForTarget.{target_beside}
use Rattle.least_greens.specs.Targets.{IsNotAbove}
use Rattle.least_greens.proofs.Multipliers.{outdone_law}
use Rattle.least_greens.proofs.TargetBeside.{longer_beside_law}
use Rattle.cycle_orders.specs.Forest.{EachTreeOf, IsGreatest}
use Rattle.cycle_orders.specs.Lean.{IsLeanFor}
use Rattle.cycle_orders.proofs.EachTree.{tree_of, map_trees}
use Rattle.cycle_orders.proofs.JoinedLean.{lean_lesser}
use Rattle.plan_design.specs.DesignLaws.{IsStretchTo}
use Rattle.plan_design.proofs.StretchedTargets.{beside_rises}

module _ (rising : RisingWalkLaw) (junction : JunctionView) (rules : IsJunction junction) (forest : List (List Node)) where
  abbrev AreLeanFor : (ℕ → Target) → Type 0
  AreLeanFor target = EachTreeOf junction (λ cycle. IsLeanFor junction all_lanes (target cycle) cycle) forest

  lean_each : (s t : ℕ → Target) → ((cycle : ℕ) → IsNotAbove (s cycle) (t cycle)) → AreLeanFor t → AreLeanFor s
  lean_each s t order = map_trees _ _ forest junction.least_cycle
      (λ cycle nodes from below lean. lean_lesser rising junction cycle (omega (arith, rules.cycles.some, from)) (s cycle) (t cycle) (order cycle) nodes lean)

  -- the multiple is the least
  pub lean_for_least : (least multiple : Ratio) → fraction_of multiple ≡ fraction_of least → AreLeanFor (λ cycle. Reach least) → AreLeanFor (λ cycle. Reach multiple)
  lean_for_least least multiple is = lean_each (λ cycle. Reach multiple) (λ cycle. Reach least)
      (λ cycle. subst (IsAtMost (fraction_of multiple)) is (omega arith))

  module _ (closed_cycle : ClosedCycleLaw) (least : Ratio) (p q : PlanView) (stretch : IsStretchTo junction p q) (greatest : IsGreatest junction least p forest)
      (n : Ratio) (of_q : IsPlanMultiplier junction q (fraction_of n)) where
    -- the stretched plan's multiplier isn't greater
    no_more : IsAtMost (fraction_of n) (fraction_of greatest.multiplier)
    no_more =
        let m = greatest.multiplier in
        let fits = stretch.stretched.fits in
        let own = target_beside p.cycle m q.cycle in
        let tree = tree_of _ forest junction.least_cycle q.cycle fits.cycle.least (omega (arith, greatest.trees, fits.cycle.greatest)) greatest.closed in
        let misses = closed_cycle junction q all_lanes own tree.0 rules tree.1 in
        let order = outdone_law junction q all_lanes n own (omega (arith, rules.cycles.some, fits.cycle.least))
        ((all_lanes_multiplier_law junction q (fraction_of n) rules).1 of_q) (λ serves. misses (record { fits = fits; serves = serves })) in
        let beats = longer_beside_law junction p all_lanes m q.cycle ((all_lanes_multiplier_law junction p (fraction_of m) rules).1 greatest.is) (omega (arith, stretch.of.cycle)) in
        subst (IsNotAbove (Beat n)) beats.0 order

    pub lean_beside : AreLeanFor (target_beside p.cycle greatest.multiplier) → AreLeanFor (target_beside q.cycle n)
    lean_beside = lean_each (target_beside q.cycle n) (target_beside p.cycle greatest.multiplier)
        (λ cycle. rw stretch.of.cycle (beside_rises n greatest.multiplier no_more (nat_lt cycle p.cycle)))
