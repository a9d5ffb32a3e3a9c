-- The curve of reserve capacity over the cycle: for each cycle within the limits a certificate, for the junction with that
-- cycle alone.
use Rattle.std.specs.Prelude.{ℕ, List, Option, None, Some, ◌≡◌, ◌≢◌, length, slice_get, IfSome}
use Rattle.sig_base.specs.Fraction.{Fraction, over}
use Rattle.sig_base.specs.Ratio.{fraction_of}
use Rattle.sig_base.specs.declared.ratio.Ratio.{Ratio}
use Rattle.junction_model.specs.Junction.{JunctionView}
use Rattle.junction_model.specs.Narrowed.{narrowed}
use Rattle.plan_model.specs.Claims.{IsPlanMultiplier}
use Rattle.plan_model.specs.Fits.{Fits}
use Rattle.plan_model.specs.Multiplier.{Beats}
use Rattle.plan_model.specs.SignalPlan.{PlanView}
use Rattle.plan_certificate.specs.Certificate.{CertificateView, certificate_of}
use Rattle.plan_certificate.specs.declared.claim.Claim.{Claim}
use Rattle.plan_certificate.specs.declared.claim.Claim.TheVariants as claim
use Rattle.certificate_checker.specs.ClaimTrees.{cycle_count, cycle_of_tree}
use Rattle.certificate_checker.specs.Proves.{ProvesClaim}
use Rattle.plan_design.specs.Design.{IsTrueStop, IsDesign}
use Rattle.plan_design.specs.declared.objective.Objective.TheVariants.{Capacity}
use Rattle.cycle_curve.specs.declared.row.CurveRow.{CurveRow}

-- a cycle in seconds, and its certificate
pub record RowView : Type 0 where
  pub cycle : ℕ
  pub certificate : CertificateView

abbrev pub row_of : CurveRow → RowView
row_of row = record { cycle = row.cycle; certificate = certificate_of row.certificate }

abbrev pub EachRow : (RowView → Type 0) → List RowView → Type 0
EachRow P rows = (k : ℕ) (row : RowView) → slice_get rows k ≡ Some row → P row

-- no row is that of a stopped search
abbrev pub NoneStopped : List RowView → Type 0
NoneStopped rows = EachRow (λ row. row.certificate.claim ≢ claim.Stopped) rows

-- every plan that fits meets the multiple 0
abbrev pub zero : Fraction
zero = over 0 1

module _ (junction : JunctionView) where
  -- one row for each cycle within the limits, upwards
  pub record AreRowsOf (rows : List RowView) : Type 0 where
    pub count : length rows ≡ cycle_count junction
    pub cycles : (k : ℕ) (row : RowView) → slice_get rows k ≡ Some row → row.cycle ≡ cycle_of_tree junction k

  -- a stopped search for the junction with this cycle alone, of the least 0/1
  pub record IsStopOf (cycle : ℕ) (c : CertificateView) : Type 0 where
    pub least : Ratio
    pub zero_is : fraction_of least ≡ zero
    pub stop : IsTrueStop (narrowed junction cycle) least c.budget c

  -- for the junction with the row's cycle alone, of the least 0/1: the certificate proves that its plan is the best one, or
  -- that there is none, or it is that of a stopped search
  pub record IsTrueRow (row : RowView) : Type 0 where
    pub least_is : row.certificate.least ≡ zero
    pub own_claim : row.certificate.claim ≢ claim.Cycle
    pub proves : row.certificate.claim ≢ claim.Stopped → ProvesClaim (narrowed junction row.cycle) row.certificate
    pub stopped : row.certificate.claim ≡ claim.Stopped → IsStopOf row.cycle row.certificate

  pub record IsTrueCurve (rows : List RowView) : Type 0 where
    pub rows_of : AreRowsOf rows
    pub each : EachRow IsTrueRow rows

  -- the row's certificate is what a design for the greatest reserve capacity gives for that junction, with this budget
  pub record IsDesignedRow (budget : ℕ) (row : RowView) : Type 0 where
    pub least : Ratio
    pub zero_is : fraction_of least ≡ zero
    pub design : IsDesign (narrowed junction row.cycle) Capacity least budget row.certificate

  -- the plan fits and has this cycle, and no plan of the cycle beats its multiplier
  pub record IsBestOfCycle (cycle : ℕ) (p : PlanView) : Type 0 where
    pub fits : Fits junction p
    pub lasts : p.cycle ≡ cycle
    pub multiplier : Fraction
    pub is : IsPlanMultiplier junction p multiplier
    pub greatest : (q : PlanView) → q.cycle ≡ cycle → ¬ Beats junction q multiplier

  -- no plan of this cycle fits
  abbrev pub NoneFits : ℕ → Type 0
  NoneFits cycle = (q : PlanView) → q.cycle ≡ cycle → ¬ Fits junction q

  -- what a claim says of all plans of a cycle: of a stopped search, that its plan, if any, is one of the cycle
  abbrev pub HoldsOfCycle : ℕ → Claim → Option PlanView → Type 0
  HoldsOfCycle cycle claim.Capacity (Some p) = IsBestOfCycle cycle p
  HoldsOfCycle cycle claim.Infeasible None = NoneFits cycle
  HoldsOfCycle cycle claim.Stopped plan = IfSome plan (λ p. Fits junction p × (p.cycle ≡ cycle))
  HoldsOfCycle cycle other plan = ⊥

  abbrev pub RowHolds : RowView → Type 0
  RowHolds row = HoldsOfCycle row.cycle row.certificate.claim row.certificate.plan
