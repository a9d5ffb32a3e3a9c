use Rattle.plan_certificate.proofs.TextLaws.{written_law, one_certificate_law, refusal_law, one_fault_law}
use Rattle.plan_certificate.proofs.Totality.{totality_law}
use Rattle.plan_certificate.proofs.laws.text_laws.Goals as goal

pub returns-clause-written : goal.returns-clause-written
returns-clause-written c = written_law

pub returns-clause-one_certificate : goal.returns-clause-one_certificate
returns-clause-one_certificate c = one_certificate_law

pub returns-clause-refusal : goal.returns-clause-refusal
returns-clause-refusal c = refusal_law

pub returns-clause-one_fault : goal.returns-clause-one_fault
returns-clause-one_fault c = one_fault_law

pub returns-clause-totality : goal.returns-clause-totality
returns-clause-totality c = totality_law
