use Rattle.std.proofs.Common.{sym, arith}
use Rattle.std.proofs.lemmas.Bool.{both_ways}
use Rattle.conflict_matrix.specs.Conflicts.{matrix_of}
use Rattle.conflict_matrix.proofs.Rows.{apart_cell, conflicting_cell}
use Rattle.conflict_matrix.proofs.PairNumbers.{number_at, none_apart}
use Rattle.conflict_matrix.proofs.conflicts.Conflicts.pair_number.Goals as goal

pub returns-then-self-i-clause-number : goal.returns-then-self-i-clause-number
returns-then-self-i-clause-number c = sym (none_apart (matrix_of c.args.self.now) c.args.i c.args.j c.args.self.now.table c.requires.i c.requires.j (λ h. both_ways _ (apart_cell _ c.if-self-i.true) h))

pub returns-else-self-i-clause-number : goal.returns-else-self-i-clause-number
returns-else-self-i-clause-number c =
    let few = c.args.self.now.table.few.1 in
    rw c.from.ensures (sym (number_at (matrix_of c.args.self.now) _ c.args.i c.args.j
    (c.args.self.now.numbers.numbered c.args.i c.args.j (omega arith) (omega arith) (conflicting_cell _ c.if-self-i.false))))
