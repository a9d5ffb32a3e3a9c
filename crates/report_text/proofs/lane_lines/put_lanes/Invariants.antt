use Rattle.std.proofs.Common.{take}
use Rattle.plan_model.specs.FittedPlan.{junction_of, fitted_plan_of}
use Rattle.report_text.specs.Pieces.{GrewBy, AreLines}
use Rattle.report_text.specs.LaneLine.{IsLaneLine}
use Rattle.report_text.proofs.lane_lines.put_lanes.Given as goal

abbrev pub invariant-loop-lane : goal.invariant-loop-lane
invariant-loop-lane l = GrewBy (AreLines (IsLaneLine (junction_of l.plan) (fitted_plan_of l.plan)) (take l.lane-index (junction_of l.plan).lanes)) l.fn.text.items l.text.items
