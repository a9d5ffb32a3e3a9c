use Rattle.log_monitor.proofs.Logs.{one_log_law, no_log_law, unsafe_law, groups_law, safe_text_law, displayed_law, played_law}
use Rattle.log_monitor.proofs.LogOrFault.{log_or_fault_law}
use Rattle.log_monitor.proofs.OneFault.{one_fault_law}
use Rattle.log_monitor.proofs.OneVerdict.{one_verdict_law}
use Rattle.log_monitor.proofs.OneViolation.{one_violation_law}
use Rattle.log_monitor.proofs.RowsText.{rows_text_law}
use Rattle.log_monitor.proofs.laws.log_laws.Goals as goal

pub returns-clause-one_log : goal.returns-clause-one_log
returns-clause-one_log c = one_log_law

pub returns-clause-no_log : goal.returns-clause-no_log
returns-clause-no_log c = no_log_law

pub returns-clause-violated : goal.returns-clause-violated
returns-clause-violated c = unsafe_law

pub returns-clause-rows_text : goal.returns-clause-rows_text
returns-clause-rows_text c = rows_text_law

pub returns-clause-played : goal.returns-clause-played
returns-clause-played c = played_law c.safety_law.ensures

pub returns-clause-displayed : goal.returns-clause-displayed
returns-clause-displayed c = displayed_law

pub returns-clause-groups : goal.returns-clause-groups
returns-clause-groups c = groups_law

pub returns-clause-one_violation : goal.returns-clause-one_violation
returns-clause-one_violation c = one_violation_law

pub returns-clause-safe_text : goal.returns-clause-safe_text
returns-clause-safe_text c = safe_text_law

pub returns-clause-one_fault : goal.returns-clause-one_fault
returns-clause-one_fault c = one_fault_law

pub returns-clause-log_or_fault : goal.returns-clause-log_or_fault
returns-clause-log_or_fault c = log_or_fault_law

pub returns-clause-one_verdict : goal.returns-clause-one_verdict
returns-clause-one_verdict c = one_verdict_law
