use Rattle.std.proofs.Common.{refl, arith}
use Rattle.sig_base.proofs.Lowest.{lowest_parts, same_quotients, same_lowest}
use Rattle.delay_report.proofs.wide_ratio.WideRatio.new.Goals as goal

pub invariant_of-result : goal.invariant_of-result
invariant_of-result c = record { lowest = lowest_parts _ _ _ (omega arith) c.greatest_divisor-divisor.ensures.greatest }

pub returns-clause-value : goal.returns-clause-value
returns-clause-value c = same_quotients _ _ _ c.greatest_divisor-divisor.ensures.greatest

pub returns-clause-kept : goal.returns-clause-kept
returns-clause-kept c = λ lowest.
    let divisor = c.greatest_divisor-divisor.ensures.greatest in
    let same = same_lowest _ _ _ _ (lowest_parts _ _ _ (omega arith) divisor) lowest (same_quotients _ _ _ divisor) in
    rw (same.0, same.1) refl
