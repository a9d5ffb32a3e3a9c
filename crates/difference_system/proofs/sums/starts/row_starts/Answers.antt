use Rattle.std.proofs.Common.{◌≡◌, subst, arith}
use Rattle.difference_system.specs.Sums.{sum_of, AreRowStarts}
use Rattle.difference_system.proofs.IsModest.{row_least, row_within}
use Rattle.difference_system.proofs.sums.starts.row_starts.Goals as goal

pub returns-clause-row : goal.returns-clause-row
returns-clause-row c =
    let end : c.loop-group.group ≡ c.args.groups = omega (arith, c.loop-group.auto.group-end, c.loop-group-test.false) in
    subst (λ groups. AreRowStarts groups (sum_of c.args.sums.now 0) c.loop-group.starts) end c.loop-group.invariant

pub returns-clause-least : goal.returns-clause-least
returns-clause-least c = λ cycle edge system sums. row_least c.args.groups cycle edge system (sum_of c.args.sums.now) sums c.loop-group.starts (returns-clause-row c)

pub returns-clause-within : goal.returns-clause-within
returns-clause-within c = λ cycle edge system sums. row_within c.args.groups cycle edge system (sum_of c.args.sums.now) sums c.loop-group.starts (returns-clause-row c)
