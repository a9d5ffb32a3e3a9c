use Rattle.certificate_checker.specs.Basis.{basis_of}
use Rattle.certificate_checker.specs.Coming.{coming_of}
use Rattle.certificate_checker.proofs.IsWalking.{IsWalking}
use Rattle.certificate_checker.proofs.tree_rules.tree_fault.Given as goal

abbrev pub invariant-loop-place : goal.invariant-loop-place
invariant-loop-place l = IsWalking (basis_of l.basis) l.nodes l.place (coming_of l.coming) l.seen
