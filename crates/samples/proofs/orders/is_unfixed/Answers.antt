use Rattle.std.proofs.Common.{inl, inr}
use Rattle.std.proofs.lemmas.Bool.{cases_lt, eqb-false, not-true}
use Rattle.conflict_matrix.specs.Conflicts.{matrix_of}
use Rattle.conflict_matrix.specs.Pairs.{fixed_pairs}
use Rattle.samples.proofs.orders.is_unfixed.Goals as goal

pub returns : goal.returns
returns c = λ other.
    let law = c.root_law.ensures (matrix_of c.args.conflicts.now) in
    elim (cases_lt c.args.item (fixed_pairs (matrix_of c.args.conflicts.now))) [
      | inl fixed ↦ absurd (eqb-false _ _ (not-true _ other) ((law.1 c.args.item c.pair.result c.pair.ensures).1 fixed))
      | inr unfixed ↦ unfixed
    ]
