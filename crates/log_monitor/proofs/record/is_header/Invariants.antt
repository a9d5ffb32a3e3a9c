use Rattle.csv.specs.Records.{fields_of}
use Rattle.log_monitor.proofs.Fields.{HasNames}
use Rattle.log_monitor.proofs.record.is_header.Given as goal

abbrev pub invariant-loop-i : goal.invariant-loop-i
invariant-loop-i l = HasNames l.junction (fields_of l.read) l.i
