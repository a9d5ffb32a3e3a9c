use Rattle.std.proofs.Common.{slice_get, IsSomeAnd}
use Rattle.sig_base.specs.First.{NoneBelow}
use Rattle.conflict_matrix.specs.Links.{IsSameLink}
use Rattle.conflict_matrix.proofs.linking.is_repeated_link.Given as goal

abbrev pub invariant-loop-earlier : goal.invariant-loop-earlier
invariant-loop-earlier l = IsSomeAnd (slice_get l.links l.k) (λ e. NoneBelow (λ n. IsSomeAnd (slice_get l.links n) (λ earlier. IsSameLink earlier e)) l.earlier)
