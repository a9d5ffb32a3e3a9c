use Rattle.csv.specs.Records.{fields_of}
use Rattle.log_monitor.proofs.Fields.{HasWords}
use Rattle.log_monitor.proofs.record.row_in.Given as goal

abbrev pub invariant-loop-i : goal.invariant-loop-i
invariant-loop-i l = HasWords (fields_of l.read) l.i l.row
