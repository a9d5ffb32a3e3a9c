use Rattle.difference_system.specs.System.{IsStateOf}
use Rattle.difference_system.specs.EdgeList.{edges_in}
use Rattle.difference_system.specs.Relax.{PassesUpTo}
use Rattle.difference_system.proofs.relax.pass.Given as goal

abbrev pub invariant-loop-place : goal.invariant-loop-place
invariant-loop-place l = record {
  state : IsStateOf l.list.system l.state;
  so_far : PassesUpTo (edges_in l.list) l.place l.fn.state l.raised l.state;
}
