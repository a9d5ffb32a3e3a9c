use Rattle.sig_base.specs.First.{NoneBelow}
use Rattle.conflict_matrix.specs.Links.{RepeatedLinkAt}
use Rattle.conflict_matrix.proofs.linking.first_repeated_link.Given as goal

abbrev pub invariant-loop-k : goal.invariant-loop-k
invariant-loop-k l = NoneBelow (RepeatedLinkAt l.links) l.k
