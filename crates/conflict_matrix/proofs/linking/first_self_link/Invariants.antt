use Rattle.sig_base.specs.First.{NoneBelow}
use Rattle.conflict_matrix.specs.Links.{SelfLinkAt}
use Rattle.conflict_matrix.proofs.linking.first_self_link.Given as goal

abbrev pub invariant-loop-k : goal.invariant-loop-k
invariant-loop-k l = NoneBelow (SelfLinkAt l.links) l.k
