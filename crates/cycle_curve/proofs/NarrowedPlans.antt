-- What the junction with one cycle alone says of the plans of that cycle.
use Rattle.std.proofs.Common.{ℕ, ◌≡◌, ◌≢◌, ◌≤◌, Option, None, Some, ◌⊎◌, inl, inr, sym, refl, subst, arith}
use Rattle.std.specs.Prelude.{IfSome}
use Rattle.std.proofs.lemmas.Option.{slice_get_within}
use Rattle.junction_model.specs.Junction.{JunctionView}
use Rattle.junction_model.specs.Narrowed.{narrowed}
use Rattle.junction_model.specs.Rules.{IsJunction}
use Rattle.plan_model.specs.Claims.{IsCapacityOptimal, IsInfeasible}
use Rattle.plan_model.specs.Fits.{Fits}
use Rattle.plan_model.specs.Multiplier.{Meets}
use Rattle.plan_model.specs.SignalPlan.{PlanView}
use Rattle.plan_certificate.specs.declared.claim.Claim.{Claim}
use Rattle.plan_certificate.specs.declared.claim.Claim.TheVariants as claim
use Rattle.certificate_checker.specs.Laws.{ProofLaw}
use Rattle.certificate_checker.specs.Proves.{ClaimHolds}
use Rattle.cycle_curve.specs.Curve.{HoldsOfCycle, IsBestOfCycle, NoneFits, zero}
use Rattle.cycle_curve.specs.Laws.{NarrowedPlansLaw, RowLaw, CurveLaw}

module _ (junction : JunctionView) (cycle : ℕ) where
  wider : (p : PlanView) → junction.least_cycle ≤ cycle → cycle ≤ junction.greatest_cycle → Fits (narrowed junction cycle) p → Fits junction p
  wider p from to fits = record {
    groups = record { starts = fits.groups.starts; greens = fits.groups.greens };
    cycle = record { least = omega (arith, fits.cycle.least, from); greatest = omega (arith, fits.cycle.greatest, to) };
    starts = fits.starts;
    greens = fits.greens;
    longest = fits.longest;
    clear = fits.clear;
    links = fits.links;
  }

  lasts : (p : PlanView) → Fits (narrowed junction cycle) p → p.cycle ≡ cycle
  lasts p fits = omega (arith, fits.cycle.least, fits.cycle.greatest)

  narrower : (p : PlanView) → p.cycle ≡ cycle → Fits junction p → Fits (narrowed junction cycle) p
  narrower p same fits = record {
    groups = record { starts = fits.groups.starts; greens = fits.groups.greens };
    cycle = record { least = omega (arith, same); greatest = omega (arith, same) };
    starts = fits.starts;
    greens = fits.greens;
    longest = fits.longest;
    clear = fits.clear;
    links = fits.links;
  }

  pub narrowed_rules : IsJunction junction → junction.least_cycle ≤ cycle → cycle ≤ junction.greatest_cycle → IsJunction (narrowed junction cycle)
  narrowed_rules rules from to = record {
    title = rules.title;
    cycles = record { some = omega (arith, rules.cycles.some, from); ordered = omega arith; longest = omega (arith, rules.cycles.longest, to) };
    groups = rules.groups;
    lanes = rules.lanes;
    conflicts = rules.conflicts;
  }

  module _ (from : junction.least_cycle ≤ cycle) (to : cycle ≤ junction.greatest_cycle) where
    best : (p : PlanView) → IsCapacityOptimal (narrowed junction cycle) zero p → IsBestOfCycle junction cycle p
    best p optimal = record {
      fits = wider p from to optimal.meets.fits;
      lasts = lasts p optimal.meets.fits;
      multiplier = optimal.multiplier;
      is = record { positive = optimal.is.positive; reached = optimal.is.reached; least = optimal.is.least };
      greatest = λ q same beats. optimal.greatest q (record { fits = narrower q same beats.fits; exceeds = beats.exceeds });
    }

    none : IsInfeasible (narrowed junction cycle) zero → NoneFits junction cycle
    none infeasible q same fits = infeasible q (record { fits = narrower q same fits; reaches = λ k own is. omega arith })

    -- by the claim
    holds : (own : Claim) (plan : Option PlanView) → own ≢ claim.Cycle → ClaimHolds (narrowed junction cycle) own zero plan → HoldsOfCycle junction cycle own plan
    holds claim.Capacity (Some p) other true_claim = best p true_claim
    holds claim.Capacity None other true_claim = absurd true_claim
    holds claim.Cycle plan other true_claim = absurd (other refl)
    holds claim.Infeasible None other true_claim = none true_claim
    holds claim.Infeasible (Some p) other true_claim = absurd true_claim
    holds claim.Stopped plan other true_claim = absurd true_claim

    carried : (plan : Option PlanView) → IfSome plan (λ p. Meets (narrowed junction cycle) p zero) → IfSome plan (λ p. Fits junction p × (p.cycle ≡ cycle))
    carried None meets = tt
    carried (Some p) meets = (wider p from to meets.fits, lasts p meets.fits)

    stopped_holds : (own : Claim) (plan : Option PlanView) → own ≡ claim.Stopped → IfSome plan (λ p. Meets (narrowed junction cycle) p zero) → HoldsOfCycle junction cycle own plan
    stopped_holds own plan is meets = subst (λ o. HoldsOfCycle junction cycle o plan) (sym is) (carried plan meets)

pub narrowed_plans_law : NarrowedPlansLaw
narrowed_plans_law junction cycle p from to = (
  λ fits. (wider junction cycle p from to fits, lasts junction cycle p fits),
  λ both. narrower junction cycle p both.1 both.0,
)

pub row_law : ProofLaw → RowLaw
row_law proof junction cycle c rules from to least other proves =
    let true_claim = proof (narrowed junction cycle) c (narrowed_rules junction cycle rules from to) proves in
    holds junction cycle from to c.claim c.plan other (subst (λ f. ClaimHolds (narrowed junction cycle) c.claim f c.plan) least true_claim)

pub decide_stopped : (own : Claim) → (own ≡ claim.Stopped) ⊎ (own ≢ claim.Stopped)
decide_stopped claim.Capacity = inr (λ e. cc)
decide_stopped claim.Cycle = inr (λ e. cc)
decide_stopped claim.Infeasible = inr (λ e. cc)
decide_stopped claim.Stopped = inl refl

pub curve_law : ProofLaw → CurveLaw
curve_law proof junction rows rules curve k row there =
    let own = curve.each k row there in
    let is = curve.rows_of.cycles k row there in
    let below = slice_get_within rows k row there in
    let ordered = rules.cycles.ordered in
    let from : junction.least_cycle ≤ row.cycle = omega (arith, is) in
    let to : row.cycle ≤ junction.greatest_cycle = omega (arith, is, below, curve.rows_of.count, ordered) in
    elim (decide_stopped row.certificate.claim) [
      | inl stopped ↦ (let part = (own.stopped stopped).stop.part.meets in
          stopped_holds junction row.cycle from to row.certificate.claim row.certificate.plan stopped
          (subst (λ f. IfSome row.certificate.plan (λ p. Meets (narrowed junction row.cycle) p f)) own.least_is part))
      | inr other ↦ row_law proof junction row.cycle row.certificate rules from to own.least_is own.own_claim (own.proves other)
    ]
