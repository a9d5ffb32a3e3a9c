use Rattle.std.proofs.Common.{◌∙◌, pos}
use Rattle.difference_system.specs.System.{groups_of, edges_of}
use Rattle.difference_system.specs.EdgeList.{edges_in}
use Rattle.difference_system.specs.Edge.{edge_of}
use Rattle.difference_system.proofs.IsSystem.{regular_of}
use Rattle.difference_system.proofs.EdgeList.{read_edge}
use Rattle.difference_system.proofs.Relaxes.{IsInRange-edge, IsState-raised, shortfall-raised, cut-several, trail-positive}
use Rattle.difference_system.proofs.relax.relax_at.Goals as goal

pub relax-requires : goal.relax-requires
relax-requires c =
    let s = c.args.list.now.system in
    let e = read_edge (groups_of s) (edges_of s) (edges_in c.args.list.now) c.edges.result.now c.args.place (edge_of 0 0 (pos 0)) c.edges.ensures c.requires.place c.requires.whole.edges in
    IsInRange-edge (groups_of s) s.cycle (edges_of s) (regular_of s) c.args.state.now c.requires.state _ e

pub returns-in-Raised-clause-state : goal.returns-in-Raised-clause-state
returns-in-Raised-clause-state c =
    let s = c.args.list.now.system in
    let e = read_edge (groups_of s) (edges_of s) (edges_in c.args.list.now) c.edges.result.now c.args.place (edge_of 0 0 (pos 0)) c.edges.ensures c.requires.place c.requires.whole.edges in
    IsState-raised (groups_of s) s.cycle (edges_of s) (regular_of s) c.args.state.now c.requires.state _ e c.relax.new.state c.in-Raised.ensures

pub returns-in-Raised-clause-step : goal.returns-in-Raised-clause-step
returns-in-Raised-clause-step c =
    let s = c.args.list.now.system in
    let e = read_edge (groups_of s) (edges_of s) (edges_in c.args.list.now) c.edges.result.now c.args.place (edge_of 0 0 (pos 0)) c.edges.ensures c.requires.place c.requires.whole.edges in
    shortfall-raised (groups_of s) s.cycle (edges_of s) (regular_of s) c.args.state.now c.requires.state _ e c.relax.new.state c.in-Raised.ensures

pub circuit-requires-clause-several : goal.circuit-requires-clause-several
circuit-requires-clause-several c =
    let s = c.args.list.now.system in
    let e = read_edge (groups_of s) (edges_of s) (edges_in c.args.list.now) c.edges.result.now c.args.place (edge_of 0 0 (pos 0)) c.edges.ensures c.requires.place c.requires.whole.edges in
    let closure = c.in-Closed.ensures in
    rw (c.trail.ensures, closure.0) (cut-several (groups_of s) (edges_of s) c.args.state.now c.requires.state _ e closure.1)

pub returns-in-Closed-clause-step : goal.returns-in-Closed-clause-step
returns-in-Closed-clause-step c =
    let s = c.args.list.now.system in
    let e = read_edge (groups_of s) (edges_of s) (edges_in c.args.list.now) c.edges.result.now c.args.place (edge_of 0 0 (pos 0)) c.edges.ensures c.requires.place c.requires.whole.edges in
    let closure = c.in-Closed.ensures in
    let positive = trail-positive (groups_of s) (edges_of s) c.args.state.now c.requires.state _ e closure.1 in
    record {
      closes = record {
        walk = c.circuit.ensures.walk;
        sum = positive.0;
        adds = rw (c.trail.ensures, closure.0) at (c.circuit.ensures.sum (edges_of s)) ∙ positive.1;
        positive = positive.2;
      };
      once = c.circuit.ensures.once;
      lowest = c.circuit.ensures.lowest;
    }
