use Rattle.log_monitor.specs.Log.{records_in}
use Rattle.conformance.proofs.of_log_monitor.line_of.Goals as goal

-- the groups of a log's violation are those of the junction
pub log_verdict_text-requires : goal.log_verdict_text-requires
log_verdict_text-requires c = λ told is.
    c.log_laws.ensures.groups c.args.junction.now (records_in c.args.log.now) told (rw is at c.in-Ok.ensures)
