use Rattle.std.proofs.Common.{◌≤◌, arith, subst}
use Rattle.std.proofs.lemmas.Bool.{false≢true}
use Rattle.std.proofs.lemmas.Nat.Gcd.{same_from_IsGcd}
use Rattle.std.specs.Int.{IsGcd}
use Rattle.sig_base.proofs.ratio.Ratio.in_lowest_terms.Goals as goal
use Rattle.sig_base.proofs.ratio.Ratio.in_lowest_terms.Goals.{then-den-eq0-via-then-den-eq0, then-den-eq0-via-else-den-eq0+then-greatest_divisor-ne1}

pub returns-then-den-eq0-clause-exactly : goal.returns-then-den-eq0-clause-exactly
returns-then-den-eq0-clause-exactly c = (
  λ answered. absurd (false≢true answered),
  λ lowest. absurd (elim c.then-den-eq0.branch [
    | then-den-eq0-via-then-den-eq0 w ↦ let some : 1 ≤ c.args.den = lowest.positive in omega (arith, some, w.if-den-eq0.true)
    | then-den-eq0-via-else-den-eq0+then-greatest_divisor-ne1 w ↦ w.if-greatest_divisor-ne1.true
        (same_from_IsGcd _ _ _ _ w.greatest_divisor.ensures.greatest lowest.coprime)
  ]),
)

pub invariant_of-result : goal.invariant_of-result
invariant_of-result c = record {
  lowest = record {
    positive = omega arith;
    coprime = subst (λ d. IsGcd c.args.num c.args.den d) (omega (arith, c.if-greatest_divisor-ne1.false)) c.greatest_divisor.ensures.greatest;
  };
}
