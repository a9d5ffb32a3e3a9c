use Rattle.junction_files.proofs.FirstVersion.{first_version_law}
use Rattle.junction_files.proofs.OneJunction.{one_junction_law}
use Rattle.junction_files.proofs.OneRefusal.{one_refusal_law}
use Rattle.junction_files.proofs.Totality.{faultless_law, totality_law}
use Rattle.junction_files.proofs.laws.reading_laws.Goals as goal

pub returns-clause-one_junction : goal.returns-clause-one_junction
returns-clause-one_junction c = one_junction_law

pub returns-clause-one_refusal : goal.returns-clause-one_refusal
returns-clause-one_refusal c = one_refusal_law

pub returns-clause-faultless : goal.returns-clause-faultless
returns-clause-faultless c = faultless_law

pub returns-clause-totality : goal.returns-clause-totality
returns-clause-totality c = totality_law

pub returns-clause-first_version : goal.returns-clause-first_version
returns-clause-first_version c = first_version_law
