use Rattle.std.proofs.Common.{subst}
use Rattle.constraint_cycles.specs.Starts.{MeetsEdges}
use Rattle.difference_system.specs.Solution.{AreLeastStarts, AreStartsWithin}
use Rattle.difference_system.specs.System.{groups_of, edges_of}
use Rattle.difference_system.specs.EdgeList.{edges_in}
use Rattle.difference_system.specs.declared.system.System.{System}
use Rattle.difference_system.proofs.IsSystem.{regular_of}
use Rattle.difference_system.proofs.LeastStarts.{settled_least, settled_within}
use Rattle.difference_system.proofs.solution.settled.Goals as goal

pub returns-in-None-clause-least : goal.returns-in-None-clause-least
returns-in-None-clause-least c =
    let list = c.gather-list.result in
    let s = list.system in
    rw c.starts.ensures (subst (λ (t : System). AreLeastStarts (MeetsEdges (edges_of t)) c.settle.new.state.starts) c.gather-list.ensures.system
    (settled_least (groups_of s) s.cycle (edges_of s) (regular_of s) (edges_in list) c.gather-list.ensures.whole c.settle.new.state c.settle.ensures.state c.in-None.ensures.met))

pub returns-in-None-clause-within : goal.returns-in-None-clause-within
returns-in-None-clause-within c =
    let list = c.gather-list.result in
    let s = list.system in
    rw c.starts.ensures (subst (λ (t : System). AreStartsWithin (groups_of t) t.cycle c.settle.new.state.starts) c.gather-list.ensures.system
    (settled_within (groups_of s) s.cycle (edges_of s) (regular_of s) (edges_in list) c.gather-list.ensures.whole c.settle.new.state c.settle.ensures.state c.in-None.ensures.met))
