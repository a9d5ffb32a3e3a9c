use Rattle.log_monitor.proofs.NextRow.{seen_in_range}
use Rattle.log_monitor.proofs.reading.Reading.verdict.Goals as goal

pub with_seconds-requires-clause-small : goal.with_seconds-requires-clause-small
with_seconds-requires-clause-small c = seen_in_range c.args.self.now c.requires.read.0 c.in-Some.found c.requires.read.1 c.in-Some.is
