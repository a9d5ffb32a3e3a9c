use Rattle.std.proofs.Common.{◌≡◌, ◌∙◌, None, subst, arith}
use Rattle.std.proofs.lemmas.List.{length_push}
use Rattle.difference_system.specs.Edge.{IsEdgeFrom, AreEdgesInRow}
use Rattle.difference_system.specs.System.{groups_of, edges_of}
use Rattle.difference_system.specs.EdgeList.{edges_in}
use Rattle.difference_system.specs.declared.system.System.{System}
use Rattle.difference_system.proofs.IsSystem.{regular_of}
use Rattle.difference_system.proofs.EdgeList.{row_lacks, row_more, row_all}
use Rattle.difference_system.proofs.edge_list.EdgeList.push_row.Goals as goal
use Rattle.difference_system.proofs.edge_list.EdgeList.push_row.Goals.{in-Some, in_default}

pub loop-to-preserved : goal.loop-to-preserved
loop-to-preserved c =
    let s = c.args.self.now.system in
    let kept = c.loop-to.invariant in
    let es = edges_in c.loop-to.self in
    elim c.match-edge.branch [
      | in-Some w ↦
          let e = w.in-Some.edge in
          let found = subst (λ (t : System). IsEdgeFrom (groups_of t) (edges_of t) c.args.from c.loop-to.to e) kept.system w.in-Some.ensures in
          let more = length_push es e in
          rw w.self-is (record {
            system = w.push.ensures.system ∙ kept.system;
            edges = rw w.push.ensures.edges (row_more (groups_of s) (edges_of s) c.args.from es c.loop-to.to e kept.edges found);
            few = rw w.push.ensures.edges (omega arith);
          })
      | in_default w ↦
          let none = subst (λ (t : System). edges_of t c.args.from c.loop-to.to ≡ None) kept.system w.in_default.ensures in
          rw w.self-is (record {
            system = kept.system;
            edges = row_lacks (groups_of s) (edges_of s) c.args.from es c.loop-to.to kept.edges none;
            few = omega arith;
          })
    ]

pub returns-clause-edges : goal.returns-clause-edges
returns-clause-edges c =
    let s = c.args.self.now.system in
    let kept = c.loop-to.invariant in
    let end : c.loop-to.to ≡ groups_of s = omega arith in
    row_all (groups_of s) (edges_of s) c.args.from (edges_in c.loop-to.self) s.cycle (regular_of s)
    (subst (λ to. AreEdgesInRow (groups_of s) (edges_of s) c.args.from to (edges_in c.loop-to.self)) end kept.edges)
