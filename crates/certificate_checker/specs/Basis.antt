-- What a tree is judged by.
use Rattle.std.specs.Prelude.{ℕ, List, Bool, true, false, length, ◌+◌, ◌==◌, ◌&&◌, take}
use Rattle.sig_base.specs.Times.{IsCycle}
use Rattle.sig_base.specs.declared.ratio.Ratio.{Ratio}
use Rattle.conflict_matrix.specs.Matrix.{Matrix}
use Rattle.conflict_matrix.specs.Conflicts.{matrix_of}
use Rattle.constraint_cycles.specs.Edge.{Edges, edge_weight, AreNeeds}
use Rattle.constraint_cycles.specs.declared.mark.Mark.{Mark}
use Rattle.junction_model.specs.Junction.{JunctionView}
use Rattle.plan_model.specs.AllLanes.{all_lanes}
use Rattle.least_greens.specs.ForTarget.{needs_of}
use Rattle.plan_certificate.specs.Certificate.{CertificateView}
use Rattle.plan_certificate.specs.declared.claim.Claim.{Claim}
use Rattle.plan_certificate.specs.declared.claim.Claim.TheVariants.{Capacity, Cycle, Infeasible, Stopped}
use Rattle.certificate_checker.specs.ClaimTrees.{cycle_of_tree, target_of}
use Rattle.certificate_checker.specs.declared.basis.Basis.{Basis}

-- the conflicts, the needs of the tree's target, its cycle, and whether it is the last one of a stopped search
pub record BasisView : Type 0 where
  pub conflicts : Matrix
  pub needs : List ℕ
  pub cycle : ℕ
  pub unfinished : Bool

-- the edges of an order
abbrev pub edges_of : BasisView → List Mark → Edges
edges_of basis marks = edge_weight basis.conflicts marks basis.needs basis.cycle

abbrev pub is_stopped : Claim → Bool
is_stopped Capacity = false
is_stopped Cycle = false
is_stopped Infeasible = false
is_stopped Stopped = true

-- the basis of the tree of this number; `multiple` is that of its target
abbrev pub basis_for : JunctionView → CertificateView → Ratio → ℕ → BasisView
basis_for junction c multiple number = record {
  conflicts = junction.conflicts;
  needs = needs_of junction all_lanes (target_of c multiple (cycle_of_tree junction number)) (cycle_of_tree junction number);
  cycle = cycle_of_tree junction number;
  unfinished = is_stopped c.claim && (number + 1 == length c.branches);
}

-- needs and a cycle in their ranges
pub record IsBasis (basis : BasisView) : Type 0 where
  pub needs : AreNeeds basis.conflicts basis.needs
  pub cycle : IsCycle basis.cycle

-- what contracts see of a basis
abbrev pub basis_of : Basis → BasisView
basis_of b = record {
  conflicts = matrix_of b.conflicts.now;
  needs = take (matrix_of b.conflicts.now).groups b.needs;
  cycle = b.cycle;
  unfinished = b.unfinished;
}
