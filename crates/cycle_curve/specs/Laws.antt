-- What the certificate of a junction with one cycle alone says of all plans of that cycle, and that bytes have one judgement.
use Rattle.std.specs.Prelude.{ℕ, List, Result, Err, ◌≡◌, ◌≢◌, ◌≤◌, ◌↔◌, ◌⊎◌}
use Rattle.junction_model.specs.Junction.{JunctionView}
use Rattle.junction_model.specs.Narrowed.{narrowed}
use Rattle.junction_model.specs.Rules.{IsJunction}
use Rattle.plan_model.specs.Fits.{Fits}
use Rattle.plan_model.specs.SignalPlan.{PlanView}
use Rattle.plan_certificate.specs.Certificate.{CertificateView}
use Rattle.plan_certificate.specs.declared.claim.Claim.TheVariants as claim
use Rattle.certificate_checker.specs.Proves.{ProvesClaim}
use Rattle.cycle_curve.specs.Curve.{RowView, IsTrueCurve, EachRow, RowHolds, HoldsOfCycle, zero}
use Rattle.cycle_curve.specs.Judged.{IsVerdictOn, IsJudgement}
use Rattle.cycle_curve.specs.declared.verdict.CurveFault.{CurveFault}
use Rattle.cycle_curve.specs.declared.verdict.CurveFault.TheVariants.{Memory}
use Rattle.cycle_curve.specs.declared.verdict.CurveVerdict.{CurveVerdict}
use Rattle.cycle_curve.specs.declared.verdict.CurveVerdict.TheVariants.{Proved, Partial}

-- the plans of the junction with one cycle alone are those of that cycle
abbrev pub NarrowedPlansLaw : Type 0
NarrowedPlansLaw = (junction : JunctionView) (cycle : ℕ) (p : PlanView) → junction.least_cycle ≤ cycle → cycle ≤ junction.greatest_cycle →
    Fits (narrowed junction cycle) p ↔ (Fits junction p × (p.cycle ≡ cycle))

-- what such a certificate proves is true of all plans of the cycle
abbrev pub RowLaw : Type 0
RowLaw = (junction : JunctionView) (cycle : ℕ) (c : CertificateView) →
    IsJunction junction → junction.least_cycle ≤ cycle → cycle ≤ junction.greatest_cycle →
    c.least ≡ zero → c.claim ≢ claim.Cycle → ProvesClaim (narrowed junction cycle) c → HoldsOfCycle junction cycle c.claim c.plan

-- so the rows of a true curve hold
abbrev pub CurveLaw : Type 0
CurveLaw = (junction : JunctionView) (rows : List RowView) → IsJunction junction → IsTrueCurve junction rows → EachRow (RowHolds junction) rows

-- and the verdict on them is that they are proved, or partial
abbrev pub AcceptedLaw : Type 0
AcceptedLaw = (junction : JunctionView) (rows : List RowView) → IsJunction junction → IsTrueCurve junction rows →
    IsVerdictOn junction rows Proved ⊎ IsVerdictOn junction rows Partial

-- bytes have one verdict or fault for a junction, but for want of memory
abbrev pub OneJudgementLaw : Type 0
OneJudgementLaw = (junction : JunctionView) (bytes : List ℕ) (one other : Result CurveVerdict CurveFault) → IsJunction junction →
    one ≢ Err Memory → other ≢ Err Memory → IsJudgement junction bytes one → IsJudgement junction bytes other → one ≡ other
