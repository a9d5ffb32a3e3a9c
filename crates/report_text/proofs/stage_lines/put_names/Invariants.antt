use Rattle.std.proofs.Common.{◌≡◌, ◌++◌, drop}
use Rattle.report_text.specs.StageLines.{names_in}
use Rattle.report_text.proofs.stage_lines.put_names.Given as goal

abbrev pub invariant-loop-group : goal.invariant-loop-group
invariant-loop-group l = l.text.items ++ names_in l.set l.group (drop l.group l.groups) ≡ l.fn.text.items ++ names_in l.set 0 l.groups
