use Rattle.cycle_curve.proofs.OneJudgement.{one_judgement_law}
use Rattle.cycle_curve.proofs.laws.one_judgement_law.Goals as goal

pub returns : goal.returns
returns c = one_judgement_law c.text_laws.ensures.one_certificate c.text_laws.ensures.refusal c.text_laws.ensures.one_fault
