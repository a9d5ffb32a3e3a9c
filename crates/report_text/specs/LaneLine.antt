-- The line of a lane: its degree of saturation and its delay.
use Rattle.std.specs.Prelude.{codes, ℕ, List, Option, ◌≡◌, ◌++◌}
use Rattle.sig_base.specs.Fraction.{Fraction}
use Rattle.flow_model.specs.declared.lane.Lane.{Lane}
use Rattle.flow_model.specs.Lane.{saturation_of}
use Rattle.junction_model.specs.Junction.{JunctionView}
use Rattle.plan_model.specs.SignalPlan.{PlanView}
use Rattle.plan_model.specs.Least.{IsEffectiveAt}
use Rattle.report_text.specs.Pieces.{AreLines}
use Rattle.report_text.specs.Figures.{IsReduced, fraction_text, IsDelay, delay_text}

abbrev pub lane_name : List ℕ → List ℕ
lane_name label = codes "lane " ++ (label ++ codes " saturation ")

unfoldable pub lane_line : List ℕ → Fraction → Option Fraction → List ℕ
lane_line label saturation delay =
    lane_name label ++ (fraction_text saturation ++ (codes " delay " ++ (delay_text delay ++ codes "\n")))

-- the line of a lane under a plan
pub record IsLaneLine (junction : JunctionView) (p : PlanView) (lane : Lane) (line : List ℕ) : Type 0 where
  pub effective : ℕ
  pub is_effective : IsEffectiveAt junction p lane.group effective
  pub saturation : Fraction
  pub is_saturation : IsReduced (saturation_of lane effective p.cycle) saturation
  pub delay : Option Fraction
  pub is_delay : IsDelay lane effective p.cycle delay
  pub text : line ≡ lane_line lane.label saturation delay

-- the lines of all lanes of a junction, in the order of the file
abbrev pub AreLaneLines : JunctionView → PlanView → List ℕ → Type 0
AreLaneLines junction p text = AreLines (IsLaneLine junction p) junction.lanes text
