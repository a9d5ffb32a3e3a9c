use Rattle.std.proofs.Common.{slice_get, IsSomeAnd}
use Rattle.sig_base.specs.First.{NoneBelow}
use Rattle.conflict_matrix.specs.Entries.{IsSamePair}
use Rattle.conflict_matrix.proofs.pairing.is_repeated.Given as goal

abbrev pub invariant-loop-earlier : goal.invariant-loop-earlier
invariant-loop-earlier l = IsSomeAnd (slice_get l.entries l.k) (λ e. NoneBelow (λ n. IsSomeAnd (slice_get l.entries n) (λ earlier. IsSamePair earlier e)) l.earlier)
