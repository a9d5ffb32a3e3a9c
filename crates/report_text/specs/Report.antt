-- The report of a certificate, line by line.
use Rattle.std.specs.Prelude.{ℕ, List, [], Option, None, Some, ◌≡◌, ◌++◌, MatchOption}
use Rattle.std.specs.Borrow.{Bor}
use Rattle.junction_model.specs.Junction.{JunctionView}
use Rattle.plan_model.specs.SignalPlan.{PlanView}
use Rattle.plan_certificate.specs.Certificate.{CertificateView}
use Rattle.plan_model.specs.FittedPlan.{junction_of, fitted_plan_of}
use Rattle.plan_model.specs.declared.fitted_plan.FittedPlan.{FittedPlan}
use Rattle.report_text.specs.Head.{head_lines}
use Rattle.report_text.specs.LaneLine.{AreLaneLines}
use Rattle.report_text.specs.PlanLines.{AreCycleLines, IsReserveLine, group_lines}
use Rattle.report_text.specs.StageLines.{AreStageLines}

-- the lines of a plan: its cycle, multiplier and reserve capacity, its groups, lanes and stages
pub record ArePlanLines (junction : JunctionView) (p : PlanView) (text : List ℕ) : Type 0 where
  pub cycle : List ℕ
  pub is_cycle : AreCycleLines junction p cycle
  pub reserve : List ℕ
  pub is_reserve : IsReserveLine junction p reserve
  pub lanes : List ℕ
  pub are_lanes : AreLaneLines junction p lanes
  pub stages : List ℕ
  pub are_stages : AreStageLines junction p stages
  pub joined : text ≡ cycle ++ (reserve ++ (group_lines p 0 junction.groups ++ (lanes ++ stages)))

-- nothing more without a plan
abbrev pub ArePlanLinesIfAny : JunctionView → Option PlanView → List ℕ → Type 0
ArePlanLinesIfAny junction plan text = MatchOption plan (text ≡ []) (λ p. ArePlanLines junction p text)

-- what it is about, and the lines of the plan, if there is one
abbrev pub IsReport : JunctionView → CertificateView → List ℕ → Type 0
IsReport junction c text = (lines : List ℕ) × ArePlanLinesIfAny junction c.plan lines × (text ≡ head_lines junction c ++ lines)

-- the plan that the certificate has, for this junction
abbrev pub IsPlanOf : JunctionView → CertificateView → Option (Bor FittedPlan) → Type 0
IsPlanOf junction c None = c.plan ≡ None
IsPlanOf junction c (Some f) = (c.plan ≡ Some (fitted_plan_of f.now)) × (junction_of f.now ≡ junction)
