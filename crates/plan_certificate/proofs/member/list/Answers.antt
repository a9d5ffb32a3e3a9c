use Rattle.std.proofs.Common.{rules}
use Rattle.plan_certificate.proofs.Elements.{elements_behind}
use Rattle.plan_certificate.proofs.member.list.Goals as goal

pub returns : goal.returns
returns c = elements_behind c.as_array.result _ (search rules)
