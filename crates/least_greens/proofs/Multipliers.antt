-- A plan's least multiplier, between the targets that the plan meets and those that it misses.
use Rattle.std.proofs.Common.{ℕ, ◌*◌, ◌≤◌, ◌⊎◌, inl, inr, subst, arith}
use Rattle.std.proofs.lemmas.Bool.{cases_lt}
use Rattle.sig_base.specs.Fraction.{Fraction, IsSameFraction}
use Rattle.sig_base.specs.Ratio.{fraction_of}
use Rattle.sig_base.specs.declared.lane_set.LaneSet.{LaneSet}
use Rattle.sig_base.specs.declared.ratio.Ratio.{Ratio}
use Rattle.sig_base.specs.declared.target.Target.{Target}
use Rattle.sig_base.specs.declared.target.Target.TheVariants.{Reach, Beat}
use Rattle.junction_model.specs.Junction.{JunctionView}
use Rattle.plan_model.specs.Multiplier.{CountsAs, IsLeastMultiplier, MeetsTarget, Serves}
use Rattle.plan_model.specs.SignalPlan.{PlanView}
use Rattle.sig_base.proofs.Fraction.{at_most_trans}
use Rattle.plan_model.proofs.LaneMultiplier.{lane_of, some_product}
use Rattle.least_greens.specs.MultiplierLaws.{OutdoneLaw, BeatenLaw, NotBeatenLaw}
use Rattle.least_greens.specs.Targets.{IsNotAbove}
use Rattle.least_greens.proofs.TargetOrder.{lesser_target_law}
use Rattle.sig_base.proofs.Fraction.{at_most}

counted_den : (junction : JunctionView) (p : PlanView) (lanes : LaneSet) (k : ℕ) (own : Fraction) → 1 ≤ p.cycle → CountsAs junction p lanes k own → 1 ≤ own.den
counted_den junction p lanes k own lasts counts =
    let of = lane_of junction p k own counts.multiplier in
    subst (λ (f : Fraction). 1 ≤ f.den) of.2.value (some_product of.0.arrival p.cycle of.2.arrives lasts)

-- to reach a multiple and to beat it are neighbours
reached_or_beaten : (t : Target) (r : Ratio) → IsNotAbove t (Reach r) ⊎ IsNotAbove (Beat r) t
reached_or_beaten (Reach n) r = elim (cases_lt (r.num * n.den) (n.num * r.den)) [ inl below ↦ inr below | inr above ↦ inl above ]
reached_or_beaten (Beat n) r = elim (cases_lt (n.num * r.den) (r.num * n.den)) [ inl below ↦ inl below | inr above ↦ inr above ]

pub outdone_law : OutdoneLaw
outdone_law junction p lanes r target lasts least misses = elim (reached_or_beaten target r) [
  | inl below ↦ absurd (misses (λ k own counts.
      lesser_target_law target (Reach r) own below (counted_den junction p lanes k own lasts counts) (least.least k own counts)))
  | inr above ↦ above
]

at_own : (t : Target) (own : Fraction) (r : Ratio) → 1 ≤ own.den → IsSameFraction (fraction_of r) own → Serves t own → IsNotAbove t (Beat r)
at_own (Reach n) own r some same served = at_most_trans (fraction_of n) own (fraction_of r) some served (omega (arith, same))
at_own (Beat n) own r some same served = at_most_trans (fraction_of n) own (fraction_of r) some (at_most (fraction_of n) own served) (omega (arith, same))

pub beaten_law : BeatenLaw
beaten_law junction p lanes r target lasts least meets =
    let lane = least.reached in
    at_own target lane.1 r (counted_den junction p lanes lane.0 lane.1 lasts lane.2) lane.3 (meets.serves lane.0 lane.1 lane.2)

-- a target that a plan meets isn't above that of reaching the plan's least multiplier
pub reached_own : (junction : JunctionView) (p : PlanView) (lanes : LaneSet) (r : Ratio) (target : Target) → 1 ≤ p.cycle → IsLeastMultiplier junction p lanes (fraction_of r) →
    MeetsTarget junction p lanes target → IsNotAbove target (Reach r)
reached_own junction p lanes r target lasts least meets = elim (reached_or_beaten target r) [
  | inl below ↦ below
  | inr above ↦ (let lane = least.reached in
      let beaten = lesser_target_law (Beat r) target lane.1 above (counted_den junction p lanes lane.0 lane.1 lasts lane.2) (meets.serves lane.0 lane.1 lane.2) in
      absurd (omega (arith, beaten, lane.3)))
]

pub not_beaten_law : NotBeatenLaw
not_beaten_law junction p lanes r least meets =
    let lane = least.reached in
    absurd (omega (arith, meets.serves lane.0 lane.1 lane.2, lane.3))
