use Rattle.std.proofs.Common.{Some, refl, ap, ◌∙◌, arith}
use Rattle.std.proofs.lemmas.Option.{slice_get-get_or}
use Rattle.constraint_cycles.specs.declared.node.Node.TheVariants.{Split}
use Rattle.cycle_orders.proofs.TrimSteps.{behind_split, behind_leaf}
use Rattle.cycle_orders.proofs.trimming.behind_tree.Goals as goal
use Rattle.cycle_orders.proofs.trimming.behind_tree.Goals.{in-Split, in_default}

pub loop-count-preserved : goal.loop-count-preserved
loop-count-preserved c =
    let i = c.loop-count.invariant in
    let nodes = c.args.nodes.now in
    elim c.match-nodes-next.branch [
      | in-Split w ↦ rw w.count-is (record {
        rest = behind_split c.loop-count.count nodes c.loop-count.next (Split w.in-Split.field-0) c.loop-count-test.true
            (slice_get-get_or nodes c.loop-count.next _ c.if-next-nodes.true ∙ ap (λ n. Some n) w.in-Split.is) w.in-Split.field-0 refl
            ∙ i.rest;
        within = omega (arith, c.if-next-nodes.true);
        few = omega (arith, i.few);
      })
      | in_default w ↦ rw w.count-is (record {
        rest = behind_leaf c.loop-count.count nodes c.loop-count.next _ c.loop-count-test.true
            (slice_get-get_or nodes c.loop-count.next _ c.if-next-nodes.true) w.in_default.not-Split
            ∙ i.rest;
        within = omega (arith, c.if-next-nodes.true);
        few = omega (arith, i.few);
      })
    ]
