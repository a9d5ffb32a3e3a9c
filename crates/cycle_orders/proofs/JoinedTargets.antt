-- The targets of cycles beside the best plan so far, and those of a later plan.
use Rattle.std.proofs.Common.{ℕ, ◌≡◌, ◌<◌, ◌≤◌, Option, None, Some, inl, inr, sym, refl, subst, arith}
use Rattle.std.proofs.lemmas.Bool.{cases_lt}
use Rattle.sig_base.specs.Fraction.{Fraction, IsSameFraction}
use Rattle.sig_base.specs.Ratio.{fraction_of}
use Rattle.sig_base.specs.declared.ratio.Ratio.{Ratio}
use Rattle.sig_base.specs.declared.target.Target.{Target}
use Rattle.sig_base.specs.declared.target.Target.TheVariants.{Reach, Beat}
use Rattle.sig_base.proofs.Fraction.{at_most_same, at_most_trans, below_at_most}
use Rattle.junction_model.specs.Junction.{JunctionView}
use Rattle.junction_model.specs.Rules.{IsJunction}
use Rattle.plan_model.specs.AllLanes.{all_lanes}
use Rattle.plan_model.specs.Claims.{IsPlanMultiplier}
use Rattle.plan_model.specs.Fits.{Fits}
use Rattle.plan_model.specs.Multiplier.{IsLeastMultiplier, MeetsTarget, Serves}
use Rattle.plan_model.specs.SignalPlan.{PlanView}
use Rattle.plan_model.proofs.AllLanes.{all_lanes_target_law, all_lanes_multiplier_law}
use Rattle.plan_model.proofs.LaneMultiplier.{lane_denominator_law}
use Rattle.plan_model.proofs.MultiplierLaws.{one_multiplier_law}
use Rattle.least_greens.specs.Targets.{IsNotAbove}
use Rattle.least_greens.proofs.Multipliers.{beaten_law}
use Rattle.least_greens.proofs.TargetBeside.{shorter_beside_law, longer_beside_law}
use Rattle.least_greens.proofs.TargetOrder.{lesser_target_law}
use Rattle.cycle_orders.specs.Forest.{target_with}
use Rattle.cycle_orders.specs.Joined.{IsBestBelow, next_target}

-- a target isn't above itself
same_target : (t : Target) → IsNotAbove t t
same_target (Reach m) = omega arith
same_target (Beat m) = omega arith

not_above : (s t s' t' : Target) → s ≡ s' → t ≡ t' → IsNotAbove s' t' → IsNotAbove s t
not_above s t s' t' same_s same_t order = rw (same_s, same_t) order

met_at_own : (t : Target) (own : Fraction) (r : Ratio) → 1 ≤ own.den → IsSameFraction (fraction_of r) own → Serves t own → IsNotAbove t (Reach r)
met_at_own (Reach n) own r some same served = at_most_trans (fraction_of n) own (fraction_of r) some served (omega (arith, same))
met_at_own (Beat n) own r some same served = below_at_most (fraction_of n) own (fraction_of r) r.lowest.positive served (omega (arith, same))

module _ (junction : JunctionView) (rules : IsJunction junction) where
  -- a plan's multiplier is the least of all lanes
  pub over_all : (p : PlanView) (r : Ratio) → IsPlanMultiplier junction p (fraction_of r) → IsLeastMultiplier junction p all_lanes (fraction_of r)
  over_all p r = (all_lanes_multiplier_law junction p (fraction_of r) rules).1

  pub of_plan : (p : PlanView) (r : Ratio) → IsLeastMultiplier junction p all_lanes (fraction_of r) → IsPlanMultiplier junction p (fraction_of r)
  of_plan p r is = (all_lanes_multiplier_law junction p (fraction_of r) rules).0 is r.lowest.positive

  pub some_cycle : (p : PlanView) → Fits junction p → 1 ≤ p.cycle
  some_cycle p fits = omega (arith, rules.cycles.some, fits.cycle.least)

  -- a target that a plan meets isn't above that of reaching the plan's multiplier
  reached_target : (p : PlanView) (r : Ratio) (t : Target) → IsPlanMultiplier junction p (fraction_of r) → MeetsTarget junction p all_lanes t → IsNotAbove t (Reach r)
  reached_target p r t is meets =
      let lane = (over_all p r is).reached in
      met_at_own t lane.1 r (lane_denominator_law junction p lane.0 lane.1 rules (some_cycle p meets.fits) lane.2.multiplier) lane.3 (meets.serves lane.0 lane.1 lane.2)

  -- a plan that meets a target meets every lesser one
  pub meets_lesser : (p : PlanView) (s t : Target) → IsNotAbove s t → MeetsTarget junction p all_lanes t → MeetsTarget junction p all_lanes s
  meets_lesser p s t order meets = record {
    fits = meets.fits;
    serves = λ k own counts. lesser_target_law s t own order (lane_denominator_law junction p k own rules (some_cycle p meets.fits) counts.multiplier) (meets.serves k own counts);
  }

  -- a plan's multiplier has one value
  same_beaten : (p : PlanView) (r m : Ratio) → 1 ≤ p.cycle → IsPlanMultiplier junction p (fraction_of r) → IsPlanMultiplier junction p (fraction_of m) → IsNotAbove (Beat r) (Beat m)
  same_beaten p r m some is own = at_most_same (fraction_of r) (fraction_of m)
      (one_multiplier_law junction p all_lanes (fraction_of r) (fraction_of m) rules some r.lowest.positive m.lowest.positive (over_all p r is) (over_all p m own))

  pub reached_beside : (p : PlanView) (r : Ratio) (cycle : ℕ) → IsPlanMultiplier junction p (fraction_of r) → cycle < p.cycle → target_with (Some p) r cycle ≡ Reach r
  reached_beside p r cycle is less = (shorter_beside_law junction p all_lanes r cycle (over_all p r is) less).0

  pub beaten_beside : (p : PlanView) (r : Ratio) (cycle : ℕ) → IsPlanMultiplier junction p (fraction_of r) → p.cycle ≤ cycle → target_with (Some p) r cycle ≡ Beat r
  beaten_beside p r cycle is long = (longer_beside_law junction p all_lanes r cycle (over_all p r is) long).0

  -- to beat it by one ratio isn't above the target of a cycle beside the plan by another
  pub beaten_own : (p : PlanView) (r m : Ratio) (target : Target) (cycle : ℕ) → 1 ≤ p.cycle → IsPlanMultiplier junction p (fraction_of r) → IsPlanMultiplier junction p (fraction_of m) →
      target ≡ Beat r → p.cycle ≤ cycle → IsNotAbove target (target_with (Some p) m cycle)
  beaten_own p r m target cycle some is own beats long = not_above _ _ (Beat r) (Beat m) beats (beaten_beside p m cycle own long) (same_beaten p r m some is own)

  module _ (least : Ratio) where
    -- the next cycle is asked for its target beside the best plan
    pub next_is : (plan : Option PlanView) (multiple : Ratio) (cycle : ℕ) → IsBestBelow junction least cycle plan multiple → target_with plan multiple cycle ≡ next_target plan multiple
    next_is None multiple cycle best = refl
    next_is (Some p) multiple cycle best = beaten_beside p multiple cycle best.multiplier (omega (arith, best.shorter))

    -- no target of a cycle before is above it
    pub next_above : (plan : Option PlanView) (multiple : Ratio) (cycle own : ℕ) → IsBestBelow junction least cycle plan multiple →
        IsNotAbove (target_with plan multiple own) (next_target plan multiple)
    next_above None multiple cycle own best = same_target (Reach multiple)
    next_above (Some p) multiple cycle own best = elim (cases_lt own p.cycle) [
      | inl less ↦ not_above _ _ (Reach multiple) (Beat multiple) (reached_beside p multiple own best.multiplier less) refl (same_target (Reach multiple))
      | inr long ↦ not_above _ _ (Beat multiple) (Beat multiple) (beaten_beside p multiple own best.multiplier long) refl (same_target (Beat multiple))
    ]

    -- nor is that of reaching the least
    pub least_below : (plan : Option PlanView) (multiple : Ratio) (cycle : ℕ) → IsBestBelow junction least cycle plan multiple → IsNotAbove (Reach least) (next_target plan multiple)
    least_below None multiple cycle best = subst (λ m. IsNotAbove (Reach least) (Reach m)) (sym best) (same_target (Reach least))
    least_below (Some p) multiple cycle best =
        let meets = (all_lanes_target_law junction p least rules).0.1 best.asked.meets in
        beaten_law junction p all_lanes multiple (Reach least) (some_cycle p meets.fits) (over_all p multiple best.multiplier) meets

    -- a plan that meets the next target beats the best one, so the targets of the cycles before rise
    pub risen_before : (plan : Option PlanView) (multiple : Ratio) (cycle own : ℕ) (p : PlanView) (r : Ratio) → IsBestBelow junction least cycle plan multiple →
        MeetsTarget junction p all_lanes (next_target plan multiple) → IsPlanMultiplier junction p (fraction_of r) → own < p.cycle →
        IsNotAbove (next_target plan multiple) (target_with (Some p) r own)
    risen_before plan multiple cycle own p r best meets is less =
        not_above _ _ (next_target plan multiple) (Reach r) refl (reached_beside p r own is less) (reached_target p r (next_target plan multiple) is meets)
