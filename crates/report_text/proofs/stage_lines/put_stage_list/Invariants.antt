use Rattle.std.proofs.Common.{◌≡◌, ◌++◌, ◌+◌, drop}
use Rattle.report_text.specs.StageLines.{stage_lines}
use Rattle.report_text.proofs.stage_lines.put_stage_list.Given as goal

abbrev pub invariant-loop-place : goal.invariant-loop-place
invariant-loop-place l = l.text.items ++ stage_lines l.groups (l.place + 1) (drop l.place l.stages) ≡ l.fn.text.items ++ stage_lines l.groups 1 l.stages
