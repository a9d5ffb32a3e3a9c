-- What a forest shows of the stretched plan.
use Rattle.std.proofs.Common.{refl, arith}
use Rattle.std.specs.Prelude.{None, Some}
use Rattle.sig_base.specs.declared.ratio.Ratio.{Ratio}
use Rattle.junction_model.specs.Junction.{JunctionView}
use Rattle.junction_model.specs.Rules.{IsJunction}
use Rattle.plan_model.specs.AllLanes.{all_lanes}
use Rattle.least_greens.specs.ClosingLaws.{RisingWalkLaw, RisingCycleLaw, ClosedCycleLaw}
use Rattle.least_greens.specs.ForTarget.{target_beside}
use Rattle.cycle_orders.specs.Forest.{EachTreeOf, IsLeanForLeast}
use Rattle.cycle_orders.specs.Lean.{IsLeanFor}
use Rattle.plan_certificate.specs.Certificate.{CertificateView}
use Rattle.plan_certificate.specs.declared.claim.Claim.TheVariants as claim
use Rattle.certificate_checker.specs.ClaimTrees.{cycle_of_tree, IsMultipleOf, target_of}
use Rattle.certificate_checker.specs.Laws.{ProofLaw}
use Rattle.certificate_checker.specs.Proves.{ProvesClaim}
use Rattle.plan_design.specs.Design.{IsShown}
use Rattle.plan_design.specs.DesignLaws.{certified, GreatestShownLaw, ShortestShownLaw, ExhaustedShownLaw}
use Rattle.plan_design.proofs.OwnLean.{lean_for_least, lean_beside}
use Rattle.plan_design.proofs.StretchedTargets.{tree_at, multiplier_of, meets_least, risen_target}

-- what a certificate proves is true
shown_by : ProofLaw → (junction : JunctionView) (least : Ratio) (c : CertificateView) → IsJunction junction → ProvesClaim junction c →
    EachTreeOf junction (IsLeanForLeast junction least) c.branches →
    ((multiple : Ratio) → IsMultipleOf junction c multiple → EachTreeOf junction (λ cycle. IsLeanFor junction all_lanes (target_of c multiple cycle) cycle) c.branches) →
    IsShown junction least c
shown_by law junction least c rules proves lean own_lean = record { proves = proves; holds = law junction c rules proves; lean = lean; own_lean = own_lean }

pub greatest_shown_law : RisingWalkLaw → RisingCycleLaw → ClosedCycleLaw → ProofLaw → GreatestShownLaw
greatest_shown_law rising_walk rising closed_cycle law junction least budget p q forest rules stretch greatest =
    let own = multiplier_of junction rules q stretch.stretch.stretched.fits in
    shown_by law junction least (certified least budget claim.Capacity (Some q) forest) rules (record {
      stated = tt;
      meets = meets_least junction least p q stretch;
      trees = omega (arith, greatest.trees, rules.cycles.ordered);
      multiple = own.0;
      is = own.1;
      closed = λ k nodes at.
          let cycle = cycle_of_tree junction k in
          rising junction all_lanes (target_beside p.cycle greatest.multiplier cycle) (target_beside q.cycle own.0 cycle) cycle nodes (omega (arith, rules.cycles.some))
          (risen_target junction rules p q stretch.stretch greatest.multiplier own.0 greatest.is own.1 cycle)
          (tree_at _ forest junction.least_cycle k nodes greatest.closed at);
    }) greatest.lean (λ multiple is. lean_beside rising_walk junction rules forest closed_cycle least p q stretch.stretch greatest multiple is greatest.own_lean)

pub shortest_shown_law : RisingWalkLaw → ProofLaw → ShortestShownLaw
shortest_shown_law rising law junction least budget p q forest rules stretch shortest =
    shown_by law junction least (certified least budget claim.Cycle (Some q) forest) rules (record {
      stated = tt;
      meets = meets_least junction least p q stretch;
      trees = omega (arith, shortest.trees, stretch.stretch.of.cycle);
      multiple = least;
      is = refl;
      closed = λ k nodes at. tree_at _ forest junction.least_cycle k nodes shortest.closed at;
    }) shortest.lean (λ multiple is. lean_for_least rising junction rules forest least multiple is shortest.lean)

pub exhausted_shown_law : RisingWalkLaw → ProofLaw → ExhaustedShownLaw
exhausted_shown_law rising law junction least budget forest rules exhausted =
    shown_by law junction least (certified least budget claim.Infeasible None forest) rules (record {
      stated = tt;
      meets = tt;
      trees = omega (arith, exhausted.trees, rules.cycles.ordered);
      multiple = least;
      is = refl;
      closed = λ k nodes at. tree_at _ forest junction.least_cycle k nodes exhausted.closed at;
    }) exhausted.lean (λ multiple is. lean_for_least rising junction rules forest least multiple is exhausted.lean)
