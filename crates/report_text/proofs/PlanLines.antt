-- The lines of a plan, part after part.
use Rattle.std.proofs.Common.{ℕ, List, ◌≡◌, ◌++◌, refl, ap, ◌∙◌, append_assoc}
use Rattle.junction_model.specs.Junction.{JunctionView}
use Rattle.plan_model.specs.SignalPlan.{PlanView}
use Rattle.report_text.specs.Pieces.{GrewBy}
use Rattle.report_text.specs.LaneLine.{AreLaneLines}
use Rattle.report_text.specs.PlanLines.{AreCycleLines, IsReserveLine, group_lines}
use Rattle.report_text.specs.StageLines.{AreStageLines}
use Rattle.report_text.specs.Report.{ArePlanLines}

five : (t a b c d e : List ℕ) → t ++ a ++ b ++ c ++ d ++ e ≡ t ++ (a ++ (b ++ (c ++ (d ++ e))))
five t a b c d e =
    append_assoc (t ++ a ++ b ++ c) d e ∙ append_assoc (t ++ a ++ b) c (d ++ e) ∙ append_assoc (t ++ a) b (c ++ (d ++ e)) ∙ append_assoc t a (b ++ (c ++ (d ++ e)))

pub plan_grew : (junction : JunctionView) (p : PlanView) (start first second third fourth end : List ℕ) →
    GrewBy (AreCycleLines junction p) start first → GrewBy (IsReserveLine junction p) first second →
    third ≡ second ++ group_lines p 0 junction.groups → GrewBy (AreLaneLines junction p) third fourth →
    GrewBy (AreStageLines junction p) fourth end → GrewBy (ArePlanLines junction p) start end
plan_grew junction p start first second third fourth end cycle reserve groups lanes stages =
    let grown : end ≡ start ++ cycle.0 ++ reserve.0 ++ group_lines p 0 junction.groups ++ lanes.0 ++ stages.0 =
    stages.2 ∙ ap (λ t. t ++ stages.0) (lanes.2 ∙ ap (λ t. t ++ lanes.0) (groups
    ∙ ap (λ t. t ++ group_lines p 0 junction.groups) (reserve.2 ∙ ap (λ t. t ++ reserve.0) cycle.2))) in (
      cycle.0 ++ (reserve.0 ++ (group_lines p 0 junction.groups ++ (lanes.0 ++ stages.0))),
      record {
        cycle = cycle.0;
        is_cycle = cycle.1;
        reserve = reserve.0;
        is_reserve = reserve.1;
        lanes = lanes.0;
        are_lanes = lanes.1;
        stages = stages.0;
        are_stages = stages.1;
        joined = refl;
      },
      grown ∙ five start cycle.0 reserve.0 (group_lines p 0 junction.groups) lanes.0 stages.0,
    )
