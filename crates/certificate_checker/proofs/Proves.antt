-- Why what a certificate proves is true.
use Rattle.std.proofs.Common.{ℕ, List, length, [], get_or, ◌≡◌, ◌-◌, ◌<◌, ◌≤◌, inl, inr, arith, subst, sym}
use Rattle.std.specs.Prelude.{Option, None, Some, IfSome, slice_get}
use Rattle.std.proofs.lemmas.Bool.{cases_lt}
use Rattle.std.proofs.lemmas.Option.{slice_get-get_or}
use Rattle.sig_base.specs.Fraction.{Fraction}
use Rattle.sig_base.specs.Ratio.{fraction_of}
use Rattle.sig_base.specs.declared.ratio.Ratio.{Ratio}
use Rattle.sig_base.specs.declared.target.Target.{Target}
use Rattle.sig_base.specs.declared.target.Target.TheVariants.{Reach}
use Rattle.sig_base.proofs.Fraction.{at_most}
use Rattle.constraint_cycles.specs.declared.node.Node.{Node}
use Rattle.junction_model.specs.Junction.{JunctionView}
use Rattle.junction_model.specs.Rules.{IsJunction}
use Rattle.plan_model.specs.AllLanes.{all_lanes}
use Rattle.plan_model.specs.Claims.{IsPlanMultiplier, IsCapacityOptimal, IsCycleOptimal, IsInfeasible}
use Rattle.plan_model.specs.Fits.{Fits}
use Rattle.plan_model.specs.Multiplier.{IsLeastMultiplier, Meets, Beats, MeetsTarget}
use Rattle.plan_model.specs.SignalPlan.{PlanView}
use Rattle.plan_model.proofs.AllLanes.{all_lanes_target_law, all_lanes_multiplier_law}
use Rattle.least_greens.specs.ClosingLaws.{ClosedCycleLaw}
use Rattle.least_greens.specs.ForTarget.{ClosesCycleFor, target_beside}
use Rattle.least_greens.proofs.TargetBeside.{shorter_beside_law, longer_beside_law}
use Rattle.plan_certificate.specs.declared.claim.Claim.{Claim}
use Rattle.plan_certificate.specs.declared.claim.Claim.TheVariants.{Capacity, Cycle, Infeasible, Stopped}
use Rattle.certificate_checker.specs.ClaimTrees.{cycle_count, cycle_of_tree, tree_count, IsMultipleFor, target_for, target_of}
use Rattle.certificate_checker.specs.Laws.{ProofLaw, PartLaw}
use Rattle.certificate_checker.specs.Proves.{HasPlanFor, ClaimHolds}

-- what the trees of a forest close, and the plans that this excludes
module _ (law : ClosedCycleLaw) (junction : JunctionView) (rules : IsJunction junction) (target : ℕ → Target) (forest : List (List Node))
    (closed : (k : ℕ) (nodes : List Node) → slice_get forest k ≡ Some nodes →
    ClosesCycleFor junction all_lanes (target (cycle_of_tree junction k)) (cycle_of_tree junction k) nodes) where
  -- no plan of a cycle that has a tree meets the target of that cycle
  excluded : (q : PlanView) → junction.least_cycle ≤ q.cycle → q.cycle - junction.least_cycle < length forest → ¬ MeetsTarget junction q all_lanes (target q.cycle)
  excluded q from within =
      let place = q.cycle - junction.least_cycle in
      let same : cycle_of_tree junction place ≡ q.cycle = omega arith in
      let nodes = get_or forest place [] in
      let closes = closed place nodes (slice_get-get_or forest place [] within) in
      law junction q all_lanes (target q.cycle) nodes rules (subst (λ cycle. ClosesCycleFor junction all_lanes (target cycle) cycle nodes) same closes)

  -- where there is a tree for each cycle, no plan that fits meets the target of its cycle
  each_excluded : length forest ≡ cycle_count junction → (q : PlanView) → Fits junction q → ¬ MeetsTarget junction q all_lanes (target q.cycle)
  each_excluded all q fits = excluded q fits.cycle.least (omega (arith, all, fits.cycle.least, fits.cycle.greatest, rules.cycles.ordered))

module _ (law : ClosedCycleLaw) (junction : JunctionView) (rules : IsJunction junction) (forest : List (List Node)) where
  module _ (p : PlanView) (multiplier : Ratio) (is : IsPlanMultiplier junction p (fraction_of multiplier)) (all : length forest ≡ cycle_count junction)
      (closed : (k : ℕ) (nodes : List Node) → slice_get forest k ≡ Some nodes →
      ClosesCycleFor junction all_lanes (target_beside p.cycle multiplier (cycle_of_tree junction k)) (cycle_of_tree junction k) nodes) where
    least_of : IsLeastMultiplier junction p all_lanes (fraction_of multiplier)
    least_of = (all_lanes_multiplier_law junction p (fraction_of multiplier) rules).1 is

    unmet : (q : PlanView) → q.cycle < p.cycle → ¬ Meets junction q (fraction_of multiplier)
    unmet q shorter meets =
        let none = each_excluded law junction rules (target_beside p.cycle multiplier) forest closed all q meets.fits in
        let target = (shorter_beside_law junction p all_lanes multiplier q.cycle least_of shorter).0 in
        none (subst (MeetsTarget junction q all_lanes) (sym target) ((all_lanes_target_law junction q multiplier rules).0.1 meets))

    unbeaten : (q : PlanView) → p.cycle ≤ q.cycle → ¬ Beats junction q (fraction_of multiplier)
    unbeaten q longer beats =
        let none = each_excluded law junction rules (target_beside p.cycle multiplier) forest closed all q beats.fits in
        let target = (longer_beside_law junction p all_lanes multiplier q.cycle least_of longer).0 in
        none (subst (MeetsTarget junction q all_lanes) (sym target) ((all_lanes_target_law junction q multiplier rules).1.1 beats))

    capacity_holds : (least : Fraction) → Meets junction p least → IsCapacityOptimal junction least p
    capacity_holds least meets = record {
      meets = meets;
      multiplier = fraction_of multiplier;
      is = is;
      greatest = λ q beats. elim (cases_lt q.cycle p.cycle) [
        | inl shorter ↦ unmet q shorter (record { fits = beats.fits; reaches = λ k own found. at_most (fraction_of multiplier) own (beats.exceeds k own found) })
        | inr longer ↦ unbeaten q longer beats
      ];
      shortest = unmet;
    }

  module _ (least : Fraction) (multiple : Ratio) (same : fraction_of multiple ≡ least)
      (closed : (k : ℕ) (nodes : List Node) → slice_get forest k ≡ Some nodes →
      ClosesCycleFor junction all_lanes (Reach multiple) (cycle_of_tree junction k) nodes) where
    reaches_least : (q : PlanView) → Meets junction q least → MeetsTarget junction q all_lanes (Reach multiple)
    reaches_least q meets = (all_lanes_target_law junction q multiple rules).0.1 (subst (Meets junction q) (sym same) meets)

    cycle_holds : (p : PlanView) → Meets junction p least → length forest ≡ p.cycle - junction.least_cycle → IsCycleOptimal junction least p
    cycle_holds p meets count = record {
      meets = meets;
      shortest = λ q shorter meets_it.
          let from = meets_it.fits.cycle.least in
          excluded law junction rules (λ cycle. Reach multiple) forest closed q from (omega (arith, from, count, shorter)) (reaches_least q meets_it);
    }

    infeasible_holds : length forest ≡ cycle_count junction → IsInfeasible junction least
    infeasible_holds all q meets = each_excluded law junction rules (λ cycle. Reach multiple) forest closed all q meets.fits (reaches_least q meets)

claim_holds : ClosedCycleLaw → (junction : JunctionView) (claim : Claim) (least : Fraction) (plan : Option PlanView) (forest : List (List Node)) (multiple : Ratio) →
    IsJunction junction → HasPlanFor claim plan → IfSome plan (λ p. Meets junction p least) → length forest ≡ tree_count junction claim plan →
    IsMultipleFor junction claim plan least multiple →
    ((k : ℕ) (nodes : List Node) → slice_get forest k ≡ Some nodes →
    ClosesCycleFor junction all_lanes (target_for claim plan multiple (cycle_of_tree junction k)) (cycle_of_tree junction k) nodes) →
    ClaimHolds junction claim least plan
claim_holds law junction Capacity least (Some p) forest multiple rules stated meets trees is closed = capacity_holds law junction rules forest p multiple is trees closed least meets
claim_holds law junction Cycle least (Some p) forest multiple rules stated meets trees is closed = cycle_holds law junction rules forest least multiple is closed p meets trees
claim_holds law junction Infeasible least None forest multiple rules stated meets trees is closed = infeasible_holds law junction rules forest least multiple is closed trees
claim_holds law junction Capacity least None forest multiple rules stated meets trees is closed = stated
claim_holds law junction Cycle least None forest multiple rules stated meets trees is closed = stated
claim_holds law junction Infeasible least (Some p) forest multiple rules stated meets trees is closed = stated
claim_holds law junction Stopped least plan forest multiple rules stated meets trees is closed = stated

pub proof_law : ClosedCycleLaw → ProofLaw
proof_law law junction c rules proves =
    claim_holds law junction c.claim c.least c.plan c.branches proves.multiple rules proves.stated proves.meets proves.trees proves.is proves.closed

pub part_law : ClosedCycleLaw → PartLaw
part_law law junction c rules proves = record {
  meets = proves.meets;
  multiple = proves.multiple;
  is = proves.is;
  excluded = λ k nodes q at visited same.
      let closes = proves.closed k nodes at visited in
      law junction q all_lanes (target_of c proves.multiple q.cycle) nodes rules
      (subst (λ cycle. ClosesCycleFor junction all_lanes (target_of c proves.multiple cycle) cycle nodes) (sym same) closes);
}
